use Rattle.wq_repair.specs.Changes.{IsBare}
use Rattle.wq_repair.specs.Marks.{Marks}
use Rattle.wq_repair.proofs.lanes.bare_lanes.Given as goal

abbrev pub invariant-loop-lane : goal.invariant-loop-lane
invariant-loop-lane g l = Marks (IsBare l.old) l.lane l.bare.items
