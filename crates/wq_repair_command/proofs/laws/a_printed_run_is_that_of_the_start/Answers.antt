use Rattle.wq_commands.proofs.AnswerLemmas.{IsSound-declaration}
use Rattle.wq_repair_command.proofs.HangJudged.{JudgesDeclared-few}
use Rattle.wq_repair_command.proofs.laws.a_printed_run_is_that_of_the_start.Goals as goal

pub returns : goal.returns
returns c = λ declared s old moving text out read sure within few.
    JudgesDeclared-few s (IsSound-declaration declared s read) sure old moving text out within few
