use Rattle.wq_around_command.proofs.PrintedChecked.{ChecksYesAround-plans}
use Rattle.wq_around_command.proofs.laws.a_printed_answer_around_is_checked_with_yes.Goals as goal

pub returns : goal.returns
returns c = ChecksYesAround-plans
