use Rattle.wq_commands.proofs.CheckAnswers.{Checks-exist}
use Rattle.wq_commands.proofs.laws.a_check_has_an_answer.Goals as goal

pub returns : goal.returns
returns c = Checks-exist
