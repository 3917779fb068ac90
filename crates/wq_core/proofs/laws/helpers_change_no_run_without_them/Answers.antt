use Rattle.wq_core.specs.State.{empty_state}
use Rattle.wq_core.proofs.Helpers.{same-run, same-after, stuck-alike, deadlocks-alike}
use Rattle.wq_core.proofs.laws.helpers_change_no_run_without_them.Goals as goal

pub returns-clause-run : goal.returns-clause-run
returns-clause-run c = λ w n steps none. (same-run w n 0 (empty_state w) steps none, same-run w 0 n (empty_state w) steps none)

pub returns-clause-state : goal.returns-clause-state
returns-clause-state c = λ w n steps none. same-after w n 0 (empty_state w) steps none

pub returns-clause-stuck : goal.returns-clause-stuck
returns-clause-stuck c = λ w n steps none. (stuck-alike w n 0 steps none, stuck-alike w 0 n steps none)

pub returns-clause-deadlocks : goal.returns-clause-deadlocks
returns-clause-deadlocks c = λ w n steps. (deadlocks-alike w n 0 steps, deadlocks-alike w 0 n steps)
