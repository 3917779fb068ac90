use Rattle.wq_history.proofs.Words.{steps_of}
use Rattle.wq_history.proofs.LegalRows.{IsRun-legal}
use Rattle.wq_history.proofs.laws.a_legal_history_under_a_safe_assignment_is_not_stuck.Goals as goal

pub returns : goal.returns
returns c w rows safe few legal = safe w.helpers few (steps_of rows) (IsRun-legal w rows legal)
