use Rattle.wq_hang.proofs.LaneItems.{AreMarkedBelow}
use Rattle.wq_hang.proofs.on_lanes.marked_items.Given as goal

abbrev pub invariant-loop-i : goal.invariant-loop-i
invariant-loop-i g l = AreMarkedBelow l.waits l.marks l.i l.list.items
