use Rattle.wq_repair_command.proofs.Judged.{Judges-printed}
use Rattle.wq_repair_command.proofs.laws.what_is_printed_is_judged_safe.Goals as goal

pub returns : goal.returns
returns c = Judges-printed
