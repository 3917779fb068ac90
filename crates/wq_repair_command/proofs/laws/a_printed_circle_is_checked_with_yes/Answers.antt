use Rattle.wq_commands.proofs.AnswerLemmas.{IsSound-declaration}
use Rattle.wq_repair_command.proofs.CircleChecked.{ChecksYesCircle-printed}
use Rattle.wq_repair_command.proofs.laws.a_printed_circle_is_checked_with_yes.Goals as goal

pub returns : goal.returns
returns c = λ declared s old out read. ChecksYesCircle-printed s (IsSound-declaration declared s read) old out
