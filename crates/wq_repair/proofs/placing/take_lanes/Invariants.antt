use Rattle.wq_repair.proofs.PlacedSteps.{AreTakenSoFar}
use Rattle.wq_repair.proofs.placing.take_lanes.Given as goal

abbrev pub invariant-loop-rank : goal.invariant-loop-rank
invariant-loop-rank l = AreTakenSoFar l.leave l.empty l.there l.rank l.fn.of_rank l.of_rank l.taken
