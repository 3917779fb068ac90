use Rattle.wq_commands.proofs.PromiseLemmas.{ShowsAnswer-answers}
use Rattle.wq_commands.proofs.laws.an_answer_shows_its_promise.Goals as goal

pub returns : goal.returns
returns c = ShowsAnswer-answers
