use Rattle.wq_history.proofs.LegalRows.{IsLegal-last_exactly, IsLegal-prefix}
use Rattle.wq_history.proofs.laws.a_history_is_legal_row_by_row.Goals as goal

pub returns-clause-last : goal.returns-clause-last
returns-clause-last c = IsLegal-last_exactly

pub returns-clause-prefix : goal.returns-clause-prefix
returns-clause-prefix c = IsLegal-prefix
