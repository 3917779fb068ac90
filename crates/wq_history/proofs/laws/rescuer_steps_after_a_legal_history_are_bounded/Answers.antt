use Rattle.wq_core.proofs.WorkLemmas.{count_by-rescuer_steps_after}
use Rattle.wq_history.proofs.Words.{steps_of}
use Rattle.wq_history.proofs.LegalRows.{IsRun-legal}
use Rattle.wq_history.proofs.laws.rescuer_steps_after_a_legal_history_are_bounded.Goals as goal

pub returns : goal.returns
returns c = λ w rows more legal steps run. count_by-rescuer_steps_after w (steps_of rows) more (IsRun-legal w rows legal) steps run
