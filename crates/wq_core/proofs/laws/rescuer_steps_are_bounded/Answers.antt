use Rattle.wq_core.proofs.WorkLemmas.{count_by-rescuer_steps_after}
use Rattle.wq_core.proofs.laws.rescuer_steps_are_bounded.Goals as goal

pub returns : goal.returns
returns c = count_by-rescuer_steps_after
