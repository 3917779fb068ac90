use Rattle.wq_repair.specs.Placing.{AreLanesOfRanks}
use Rattle.wq_repair.proofs.placing.lanes_by_rank.Given as goal

abbrev pub invariant-loop-group : goal.invariant-loop-group
invariant-loop-group g l = AreLanesOfRanks l.old l.stays l.named l.ranks l.most l.group l.lanes.items
