use Rattle.wq_history.proofs.Woken.{answer-enough}
use Rattle.wq_history.proofs.laws.an_answer_wakes_enough.Goals as goal

pub returns : goal.returns
returns c = answer-enough
