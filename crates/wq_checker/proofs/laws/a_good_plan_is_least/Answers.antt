use Rattle.wq_checker.proofs.GoodAnswers.{IsLeast-good}
use Rattle.wq_checker.proofs.laws.a_good_plan_is_least.Goals as goal

pub returns : goal.returns
returns c d plan is asked good = IsLeast-good d is plan asked good
