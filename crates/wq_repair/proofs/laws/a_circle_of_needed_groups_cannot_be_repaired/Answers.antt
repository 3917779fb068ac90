use Rattle.wq_repair.proofs.Rescuers.{Deadlocks-needed_circle}
use Rattle.wq_repair.proofs.laws.a_circle_of_needed_groups_cannot_be_repaired.Goals as goal

pub returns : goal.returns
returns c = λ d old new names declaration before compared circle. Deadlocks-needed_circle d old new names declaration before compared circle
