use Rattle.wq_checker.proofs.AnswersDecided.{an_answer}
use Rattle.wq_checker.proofs.OneAnswer.{one_answer}
use Rattle.wq_checker.proofs.laws.a_certificate_has_one_answer.Goals as goal

pub returns-clause-one : goal.returns-clause-one
returns-clause-one g d c is = an_answer d is c

pub returns-clause-at_most_one : goal.returns-clause-at_most_one
returns-clause-at_most_one g d c r s is asked one other = one_answer d is c r s asked one other
