use Rattle.wq_repair.specs.Lanes.{AreOwnLanes}
use Rattle.wq_repair.proofs.lanes.own_lanes.Given as goal

abbrev pub invariant-loop-group : goal.invariant-loop-group
invariant-loop-group g l = AreOwnLanes l.old l.marks l.free l.group l.lane_of.items l.taken
