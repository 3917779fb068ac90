use Rattle.wq_levels.proofs.Taken.{IsTaking}
use Rattle.wq_levels.proofs.ranking.take_off.Given as goal

abbrev pub invariant-loop-place : goal.invariant-loop-place
invariant-loop-place g l = IsTaking l.graph l.place l.progress
