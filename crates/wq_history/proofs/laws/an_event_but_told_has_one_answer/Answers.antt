use Rattle.wq_history.proofs.KeptRows.{one_answer}
use Rattle.wq_history.proofs.laws.an_event_but_told_has_one_answer.Goals as goal

pub returns : goal.returns
returns c = one_answer
