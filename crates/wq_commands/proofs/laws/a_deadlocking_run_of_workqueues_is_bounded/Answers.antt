use Rattle.wq_core.specs.Workqueues.{wiring_of}
use Rattle.wq_deadlock.proofs.BareLanes.{IsWiring-workqueues}
use Rattle.wq_deadlock.proofs.Named.{IsNamed-run}
use Rattle.wq_deadlock.proofs.RunLengths.{length-once}
use Rattle.wq_commands.proofs.HangLemmas.{length-deadlocking}
use Rattle.wq_commands.proofs.laws.a_deadlocking_run_of_workqueues_is_bounded.Goals as goal

pub returns-clause-named : goal.returns-clause-named
returns-clause-named c = λ d ws steps declaration assignment by. IsNamed-run (wiring_of d ws) steps (IsWiring-workqueues d ws declaration assignment) by.run

pub returns-clause-short : goal.returns-clause-short
returns-clause-short c = λ d ws steps by. length-once (wiring_of d ws) steps by.run by.once

pub returns-clause-few : goal.returns-clause-few
returns-clause-few c = length-deadlocking
