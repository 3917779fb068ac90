use Rattle.std.proofs.Common.{ℕ, ◌<◌, ◌⊎◌}
use Rattle.wq_repair.specs.Marks.{IsMarked}
use Rattle.wq_repair.proofs.checking.are_within.Given as goal

abbrev pub invariant-loop-group : goal.invariant-loop-group
invariant-loop-group l =
    (k : ℕ) → k < l.group → IsMarked l.stays k → IsMarked l.fixed k ⊎ IsMarked l.tried k
