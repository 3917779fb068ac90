use Rattle.wq_core.specs.Wiring.{wiring}
use Rattle.wq_deadlock.proofs.Renumbered.{IsSafe-or_deadlocks, not_safe-deadlocks, Deadlocks-not_safe}
use Rattle.wq_deadlock.proofs.laws.unsafe_is_deadlocking.Goals as goal

pub returns-clause-one : goal.returns-clause-one
returns-clause-one c = IsSafe-or_deadlocks

pub returns-clause-not_both : goal.returns-clause-not_both
returns-clause-not_both c = not_safe-deadlocks

pub returns-clause-same : goal.returns-clause-same
returns-clause-same c d a declaration assignment = (Deadlocks-not_safe d a declaration assignment, not_safe-deadlocks (wiring d a))
