use Rattle.wq_core.specs.Wiring.{wiring}
use Rattle.wq_core.proofs.Wirings.{IsWiring-wiring}
use Rattle.wq_deadlock.proofs.Named.{IsNamed-run}
use Rattle.wq_deadlock.proofs.RunLengths.{length-once, length-deadlocking}
use Rattle.wq_deadlock.proofs.laws.a_deadlocking_run_is_bounded.Goals as goal

pub returns-clause-named : goal.returns-clause-named
returns-clause-named c d a steps declaration assignment deadlocks = IsNamed-run (wiring d a) steps (IsWiring-wiring d a declaration assignment) deadlocks.run

pub returns-clause-short : goal.returns-clause-short
returns-clause-short c d a steps deadlocks = length-once (wiring d a) steps deadlocks.run deadlocks.once

pub returns-clause-few : goal.returns-clause-few
returns-clause-few c = length-deadlocking
