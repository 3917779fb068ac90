use Rattle.wq_history.proofs.Upheld.{ask_takes}
use Rattle.wq_history.proofs.laws.an_ask_takes_two_rows_at_most.Goals as goal

pub returns : goal.returns
returns c = ask_takes
