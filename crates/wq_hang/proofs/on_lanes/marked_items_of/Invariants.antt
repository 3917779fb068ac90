use Rattle.std.proofs.Common.{take}
use Rattle.wq_hang.specs.Search.{AreMarkedOf}
use Rattle.wq_hang.proofs.on_lanes.marked_items_of.Given as goal

abbrev pub invariant-loop-lane : goal.invariant-loop-lane
invariant-loop-lane g l = AreMarkedOf l.on l.marks (take l.lane-index l.lanes) l.list.items
