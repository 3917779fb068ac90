use Rattle.std.proofs.Common.{◌≡◌, ◌↔◌, ℕ, List, subst, ◌∙◌, arith}
use Rattle.std.specs.Prelude.{IsTrue}
use Rattle.std.specs.List.{All}
use Rattle.wq_core.specs.Wiring.{items}
use Rattle.wq_checker.proofs.QueueCounts.{Counted, IsOnce-counts}
use Rattle.wq_checker.proofs.once.is_once.Goals as goal

pub returns-clause-once : goal.returns-clause-once
returns-clause-once g c =
    let w = c.args.core.now.wiring in
    let counts = c.in_ok-counts.counts.items in
    let counted : Counted c.args.steps.now (items w) counts = record {
      len = c.in_ok-counts.ensures.len ∙ c.items.ensures.items;
      each = λ i below. c.in_ok-counts.ensures.counts i (omega (arith, below, c.items.ensures.items));
    } in
    IsOnce-counts w c.args.steps.now counts c.are_one.result counted (c.none_cancels.ensures.0 c.if-not-none_cancels.false) (subst (λ (l : List ℕ). IsTrue c.are_one.result ↔ All (λ n. n ≡ 1) l) c.as_slice.ensures.value c.are_one.ensures)
