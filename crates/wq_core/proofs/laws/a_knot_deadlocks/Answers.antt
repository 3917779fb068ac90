use Rattle.wq_core.proofs.KnotRuns.{DeadlocksBy-knot}
use Rattle.wq_core.proofs.laws.a_knot_deadlocks.Goals as goal

pub returns : goal.returns
returns c = DeadlocksBy-knot
