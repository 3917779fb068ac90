use Rattle.wq_history.proofs.LegalRows.{IsRun-legal}
use Rattle.wq_history.proofs.laws.the_steps_of_a_legal_history_are_a_run.Goals as goal

pub returns : goal.returns
returns c = IsRun-legal
