use Rattle.wq_deadlock.proofs.CircleRuns.{IsCircleRun-exists, DeadlocksBy-circle_run}
use Rattle.wq_deadlock.proofs.laws.a_circle_has_a_run.Goals as goal

pub returns-clause-run : goal.returns-clause-run
returns-clause-run c = λ d a circle declaration assignment walked. IsCircleRun-exists d a declaration assignment circle walked

pub returns-clause-deadlocks : goal.returns-clause-deadlocks
returns-clause-deadlocks c = λ d a circle steps declaration assignment walked is_run. DeadlocksBy-circle_run d a declaration assignment circle walked steps is_run
