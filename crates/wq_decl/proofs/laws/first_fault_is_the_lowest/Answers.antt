use Rattle.wq_decl.proofs.FaultLemmas.{first_fault-None, first_fault-Some}
use Rattle.wq_decl.proofs.laws.first_fault_is_the_lowest.Goals as goal

pub returns-clause-none : goal.returns-clause-none
returns-clause-none c = first_fault-None

pub returns-clause-some : goal.returns-clause-some
returns-clause-some c = first_fault-Some
