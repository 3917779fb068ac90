use Rattle.wq_checker.proofs.GoodAnswers.{IsCircleAlong-good}
use Rattle.wq_checker.proofs.laws.a_good_circle_goes_round_groups.Goals as goal

pub returns : goal.returns
returns c d circle is asked good = IsCircleAlong-good d is circle asked good.joined
