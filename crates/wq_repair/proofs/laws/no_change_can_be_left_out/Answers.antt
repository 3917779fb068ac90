use Rattle.wq_repair.proofs.Minimal.{Deadlocks-fewer}
use Rattle.wq_repair.proofs.laws.no_change_can_be_left_out.Goals as goal

pub returns : goal.returns
returns c = Deadlocks-fewer
