use Rattle.wq_items.proofs.FaultLemmas.{IsOk-table_of, Err-table_of}
use Rattle.wq_items.proofs.laws.faults_without_tables.Goals as goal

pub returns-clause-none : goal.returns-clause-none
returns-clause-none c = IsOk-table_of

pub returns-clause-lowest : goal.returns-clause-lowest
returns-clause-lowest c = Err-table_of
