use Rattle.wq_decl.proofs.RowLemmas.{IsOk-reading, Err-reading}
use Rattle.wq_decl.proofs.laws.the_first_row_of_a_line_decides.Goals as goal

pub returns-clause-none : goal.returns-clause-none
returns-clause-none c = IsOk-reading

pub returns-clause-fault : goal.returns-clause-fault
returns-clause-fault c = Err-reading
