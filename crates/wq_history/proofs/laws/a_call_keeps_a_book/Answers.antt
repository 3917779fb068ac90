use Rattle.wq_history.proofs.Upheld.{answer-upheld}
use Rattle.wq_history.proofs.laws.a_call_keeps_a_book.Goals as goal

pub returns : goal.returns
returns c = answer-upheld
