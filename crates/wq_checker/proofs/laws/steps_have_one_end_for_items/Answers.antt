use Rattle.wq_checker.proofs.OneAnswer.{one_end_for}
use Rattle.wq_checker.proofs.RunsDecided.{an_end_for, for_rescued}
use Rattle.wq_checker.proofs.laws.steps_have_one_end_for_items.Goals as goal

pub returns-clause-one : goal.returns-clause-one
returns-clause-one c w named steps = an_end_for w steps named

pub returns-clause-at_most_one : goal.returns-clause-at_most_one
returns-clause-at_most_one c w named steps r s one other = one_end_for w steps named r s one other

pub returns-clause-all_rescued : goal.returns-clause-all_rescued
returns-clause-all_rescued c w steps end = for_rescued w steps end
