use Rattle.wq_repair_command.proofs.Again.{Repairs-again}
use Rattle.wq_repair_command.proofs.laws.what_is_printed_is_repaired_to_itself.Goals as goal

pub returns : goal.returns
returns c = Repairs-again
