use Rattle.wq_checker.proofs.OneAnswer.{one_end}
use Rattle.wq_checker.proofs.RunsDecided.{an_end}
use Rattle.wq_checker.proofs.laws.steps_have_one_end.Goals as goal

pub returns-clause-at_most_one : goal.returns-clause-at_most_one
returns-clause-at_most_one c w steps r s one other = one_end w steps r s one other

pub returns-clause-one : goal.returns-clause-one
returns-clause-one c w steps = an_end w steps
