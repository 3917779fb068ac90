use Rattle.wq_repair.proofs.Repaired.{IsRepair-needed}
use Rattle.wq_repair.proofs.laws.needed_changes_make_a_repair.Goals as goal

pub returns : goal.returns
returns c = IsRepair-needed
