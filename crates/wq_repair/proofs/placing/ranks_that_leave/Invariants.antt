use Rattle.std.proofs.Common.{◌≡◌, ℕ}
use Rattle.std.specs.Prelude.{slice_index}
use Rattle.wq_repair.specs.Marks.{IsMarked, Marks}
use Rattle.wq_repair.proofs.Marks.{SomeBelow}
use Rattle.wq_repair.proofs.placing.ranks_that_leave.Given as goal

abbrev pub invariant-loop-group : goal.invariant-loop-group
invariant-loop-group g l = Marks (SomeBelow (λ (m r : ℕ). IsMarked l.leaves m × (slice_index l.ranks m ≡ r)) l.group) l.most l.leave.items
