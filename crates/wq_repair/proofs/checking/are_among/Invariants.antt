use Rattle.std.proofs.Common.{ℕ, ◌<◌}
use Rattle.wq_repair.specs.Marks.{IsMarked}
use Rattle.wq_repair.proofs.checking.are_among.Given as goal

abbrev pub invariant-loop-group : goal.invariant-loop-group
invariant-loop-group l = (k : ℕ) → k < l.group → IsMarked l.some k → IsMarked l.all k
