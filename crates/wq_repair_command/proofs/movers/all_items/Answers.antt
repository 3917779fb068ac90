use Rattle.std.proofs.Common.{ℕ, List, ◌++◌, ◌∷◌, [], sym, ap, ◌∙◌}
use Rattle.std.specs.List.{range_with_len}
use Rattle.wq_items.proofs.TableLemmas.{range_with_len-push}
use Rattle.wq_repair_command.proofs.movers.all_items.Goals as goal

pub loop-item-preserved : goal.loop-item-preserved
loop-item-preserved g c =
    c.in_ok-push.ensures.items
    ∙ ap (λ (l : List ℕ). l ++ (c.new.result ∷ [])) c.loop-item.invariant
    ∙ ap (λ (i : ℕ). range_with_len 0 c.loop-item.item ++ (i ∷ [])) c.new.ensures
    ∙ sym (range_with_len-push c.loop-item.item)
