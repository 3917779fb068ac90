use Rattle.wq_core.proofs.CircleKnots.{Deadlocks-circle, Deadlocks-rescued_circle}
use Rattle.wq_core.proofs.laws.lanes_that_wait_in_a_circle_deadlock.Goals as goal

pub returns-clause-all_rescued : goal.returns-clause-all_rescued
returns-clause-all_rescued c = Deadlocks-circle

pub returns-clause-rescued : goal.returns-clause-rescued
returns-clause-rescued c = Deadlocks-rescued_circle
