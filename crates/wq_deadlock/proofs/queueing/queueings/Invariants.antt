use Rattle.std.proofs.Common.{◌≡◌, ◌==◌, not, ◌++◌, map, take}
use Rattle.std.specs.List.{filter, list_any, range_with_len}
use Rattle.wq_core.specs.declared.step.Step.TheVariants.{Queue}
use Rattle.wq_deadlock.proofs.queueing.queueings.Given as goal

abbrev pub invariant-loop-item : goal.invariant-loop-item
invariant-loop-item g l = l.steps.items ≡ map Queue (take l.item-index l.first)

abbrev pub invariant-loop-number : goal.invariant-loop-number
invariant-loop-number g l = l.steps.items ≡ map Queue (l.first ++ filter (λ i. not (list_any (λ j. i == j) l.first)) (range_with_len 0 l.number))
