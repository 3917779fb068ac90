use Rattle.wq_checker.proofs.GoodAnswers.{Circle-any}
use Rattle.wq_checker.proofs.laws.a_good_circle_is_one_in_every_assignment.Goals as goal

pub returns : goal.returns
returns c d circle b is asked good assignment = Circle-any d is circle asked good.joined b
