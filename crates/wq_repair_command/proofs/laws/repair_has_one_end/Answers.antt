use Rattle.wq_commands.proofs.AnswerLemmas.{IsSound-declaration}
use Rattle.wq_repair_command.proofs.OneEnd.{one_end, PrintsNeededCircle-unique}
use Rattle.wq_repair_command.proofs.laws.repair_has_one_end.Goals as goal

pub returns-clause-end : goal.returns-clause-end
returns-clause-end c = one_end

pub returns-clause-circle : goal.returns-clause-circle
returns-clause-circle c = λ text s old one other read. PrintsNeededCircle-unique s (IsSound-declaration text s read) old one other
