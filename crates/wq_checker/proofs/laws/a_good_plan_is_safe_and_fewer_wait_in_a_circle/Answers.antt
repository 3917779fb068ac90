use Rattle.wq_checker.proofs.GoodAnswers.{IsSafe-fall, Circle-fewer}
use Rattle.wq_checker.proofs.laws.a_good_plan_is_safe_and_fewer_wait_in_a_circle.Goals as goal

pub returns-clause-safe : goal.returns-clause-safe
returns-clause-safe c d plan is good = IsSafe-fall d is plan.assignment good.falls

pub returns-clause-fewer : goal.returns-clause-fewer
returns-clause-fewer c d plan b is asked good assignment fewer = Circle-fewer d is plan asked good b assignment fewer
