use Rattle.wq_commands.proofs.PromiseLemmas.{KeepsPromise-answers}
use Rattle.wq_commands.proofs.laws.an_answer_keeps_its_promise.Goals as goal

pub returns : goal.returns
returns c = KeepsPromise-answers
