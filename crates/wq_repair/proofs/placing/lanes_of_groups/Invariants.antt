use Rattle.wq_repair.specs.Placing.{AreRankedLanes}
use Rattle.wq_repair.proofs.placing.lanes_of_groups.Given as goal

abbrev pub invariant-loop-group : goal.invariant-loop-group
invariant-loop-group g l = AreRankedLanes l.old l.leaves l.ranks l.of_rank l.group l.lane_of.items
