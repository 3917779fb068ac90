use Rattle.wq_core.specs.Workqueues.{wiring_of}
use Rattle.wq_deadlock.proofs.Renumbered.{not_safe-deadlocks}
use Rattle.wq_commands.proofs.HangLemmas.{AreSafe-or_deadlock, same-unsafe}
use Rattle.wq_commands.proofs.laws.unsafe_workqueues_are_deadlocking.Goals as goal

pub returns-clause-one : goal.returns-clause-one
returns-clause-one c = AreSafe-or_deadlock

pub returns-clause-not_both : goal.returns-clause-not_both
returns-clause-not_both c = λ d ws. not_safe-deadlocks (wiring_of d ws)

pub returns-clause-same : goal.returns-clause-same
returns-clause-same c = same-unsafe
