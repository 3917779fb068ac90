use Rattle.wq_readings.proofs.DecisionLemmas.{few-denied}
use Rattle.wq_readings.proofs.decisions.a_flush_that_is_denied_leaves_no_fewer_to_decide.Goals as goal

pub returns : goal.returns
returns c = few-denied
