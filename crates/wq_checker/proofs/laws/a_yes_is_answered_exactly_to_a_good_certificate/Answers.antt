use Rattle.wq_checker.proofs.YesIsGood.{yes-good}
use Rattle.wq_checker.proofs.laws.a_yes_is_answered_exactly_to_a_good_certificate.Goals as goal

pub returns : goal.returns
returns g d f c r answers = yes-good d f c r answers
