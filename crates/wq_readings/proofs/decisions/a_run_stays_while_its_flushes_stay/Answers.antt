use Rattle.wq_readings.proofs.DecisionLemmas.{stuck-denied, stuck-confirmed}
use Rattle.wq_readings.proofs.decisions.a_run_stays_while_its_flushes_stay.Goals as goal

pub returns-clause-denied : goal.returns-clause-denied
returns-clause-denied c = stuck-denied

pub returns-clause-confirmed : goal.returns-clause-confirmed
returns-clause-confirmed c = stuck-confirmed
