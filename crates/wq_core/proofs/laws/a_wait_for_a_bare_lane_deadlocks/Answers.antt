use Rattle.wq_core.proofs.BareWaits.{DeadlocksBy-bare, Deadlocks-bare}
use Rattle.wq_core.proofs.laws.a_wait_for_a_bare_lane_deadlocks.Goals as goal

pub returns-clause-run : goal.returns-clause-run
returns-clause-run c = DeadlocksBy-bare

pub returns-clause-deadlocks : goal.returns-clause-deadlocks
returns-clause-deadlocks c = Deadlocks-bare
