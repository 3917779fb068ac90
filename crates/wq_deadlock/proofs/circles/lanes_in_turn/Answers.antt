use Rattle.std.proofs.Common.{ℕ, List, ◌++◌, ◌∷◌, [], sym, ap, ◌∙◌}
use Rattle.std.specs.List.{range_with_len}
use Rattle.wq_items.proofs.TableLemmas.{range_with_len-push}
use Rattle.wq_deadlock.proofs.circles.lanes_in_turn.Goals as goal

pub loop-q-preserved : goal.loop-q-preserved
loop-q-preserved g c =
    c.in_ok-push.ensures.items
    ∙ ap (λ (l : List ℕ). l ++ (c.new.result ∷ [])) c.loop-q.invariant
    ∙ ap (λ (q : ℕ). range_with_len 0 c.loop-q.q ++ (q ∷ [])) c.new.ensures
    ∙ sym (range_with_len-push c.loop-q.q)
