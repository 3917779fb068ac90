use Rattle.std.proofs.Common.{ℕ}
use Rattle.wq_repair.specs.Changes.{IsBare}
use Rattle.wq_repair.specs.Marks.{IsMarked, Marks}
use Rattle.wq_repair.proofs.GivenLanes.{MayBeGiven}
use Rattle.wq_repair.proofs.start.given_lanes.Given as goal

abbrev pub invariant-loop-lane : goal.invariant-loop-lane
invariant-loop-lane g l = Marks (λ (q : ℕ). IsBare l.workqueues q × IsMarked l.named_lanes q) l.lane l.given.items

abbrev pub invariant-loop-group : goal.invariant-loop-group
invariant-loop-group g l = Marks (MayBeGiven l.workqueues l.named_lanes l.needed l.group) l.workqueues.assignment.lanes l.given.items
