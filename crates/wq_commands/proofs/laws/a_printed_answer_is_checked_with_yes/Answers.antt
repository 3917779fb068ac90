use Rattle.wq_commands.proofs.PromiseLemmas.{Checks-answers}
use Rattle.wq_commands.proofs.laws.a_printed_answer_is_checked_with_yes.Goals as goal

pub returns : goal.returns
returns c = Checks-answers
