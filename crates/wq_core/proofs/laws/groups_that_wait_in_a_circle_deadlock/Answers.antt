use Rattle.wq_core.proofs.Least.{Deadlocks-circle_of_groups}
use Rattle.wq_core.proofs.laws.groups_that_wait_in_a_circle_deadlock.Goals as goal

pub returns : goal.returns
returns c = Deadlocks-circle_of_groups
