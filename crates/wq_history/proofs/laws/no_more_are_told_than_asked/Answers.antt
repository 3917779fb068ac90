use Rattle.wq_history.proofs.LegalRows.{told-asked, told-asked_all}
use Rattle.wq_history.proofs.laws.no_more_are_told_than_asked.Goals as goal

pub returns-clause-of_each : goal.returns-clause-of_each
returns-clause-of_each c = told-asked

pub returns-clause-in_all : goal.returns-clause-in_all
returns-clause-in_all c = told-asked_all
