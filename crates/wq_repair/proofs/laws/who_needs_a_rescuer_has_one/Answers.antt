use Rattle.wq_repair.proofs.Rescuers.{rescued-needed}
use Rattle.wq_repair.proofs.laws.who_needs_a_rescuer_has_one.Goals as goal

pub returns : goal.returns
returns c = λ d old new names g declaration before compared needed. rescued-needed d old new names declaration before compared g needed
