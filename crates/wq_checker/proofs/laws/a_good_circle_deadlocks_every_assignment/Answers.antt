use Rattle.wq_checker.proofs.GoodAnswers.{Deadlocks-any}
use Rattle.wq_checker.proofs.laws.a_good_circle_deadlocks_every_assignment.Goals as goal

pub returns : goal.returns
returns c d circle b is asked good assignment = Deadlocks-any d is circle asked good.joined b assignment
