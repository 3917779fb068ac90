use Rattle.wq_checker.proofs.GoodAnswers.{IsChainAlong-good}
use Rattle.wq_checker.proofs.laws.a_good_plan_has_a_chain_of_groups.Goals as goal

pub returns : goal.returns
returns c d plan is asked good = IsChainAlong-good d is plan asked good
