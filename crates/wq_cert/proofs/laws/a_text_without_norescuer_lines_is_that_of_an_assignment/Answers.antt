use Rattle.wq_cert.proofs.AllRescued.{assignment-without-bare, rescuers-without-bare}
use Rattle.wq_cert.proofs.laws.a_text_without_norescuer_lines_is_that_of_an_assignment.Goals as goal

pub returns-clause-assignment : goal.returns-clause-assignment
returns-clause-assignment c = λ names p text none. assignment-without-bare names p text none

pub returns-clause-rescuers : goal.returns-clause-rescuers
returns-clause-rescuers c = λ names p text ws q none e. rescuers-without-bare names p text ws q none e
