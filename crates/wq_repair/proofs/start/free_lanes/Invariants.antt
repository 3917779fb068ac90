use Rattle.std.proofs.Common.{◌≡◌, ℕ}
use Rattle.wq_repair.specs.Changes.{lane_in}
use Rattle.wq_repair.specs.Marks.{IsMarked, Marks}
use Rattle.wq_repair.proofs.Marks.{SomeBelow}
use Rattle.wq_repair.proofs.start.free_lanes.Given as goal

-- the lanes on which none of the groups so far is but those that may move
abbrev pub invariant-loop-group : goal.invariant-loop-group
invariant-loop-group g l = Marks (λ (k : ℕ). ¬ SomeBelow (λ (m q : ℕ). (¬ IsMarked l.movable m) × (lane_in l.workqueues m ≡ q)) l.group k) l.workqueues.assignment.lanes l.free.items
