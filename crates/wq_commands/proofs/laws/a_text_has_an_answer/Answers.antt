use Rattle.wq_commands.proofs.Existence.{Answers-exist}
use Rattle.wq_commands.proofs.laws.a_text_has_an_answer.Goals as goal

pub returns : goal.returns
returns c = Answers-exist
