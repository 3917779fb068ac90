use Rattle.wq_deadlock.proofs.OnlyRun.{same_played, same_circle_run}
use Rattle.wq_deadlock.proofs.laws.the_run_is_the_only_one.Goals as goal

pub returns-clause-played : goal.returns-clause-played
returns-clause-played c = same_played

pub returns-clause-of_a_circle : goal.returns-clause-of_a_circle
returns-clause-of_a_circle c = same_circle_run
