use Rattle.wq_readings.proofs.NeededFlushes.{chain-enough, chain-needed}
use Rattle.wq_readings.proofs.plans.as_many_workqueues_need_as_many_flushes.Goals as goal

pub returns-clause-enough : goal.returns-clause-enough
returns-clause-enough c = chain-enough

pub returns-clause-needed : goal.returns-clause-needed
returns-clause-needed c = chain-needed
