use Rattle.wq_commands.proofs.AllRescued.{safe-rescued, deadlock-rescued, end-rescued, waits-rescued, graph-rescued, IsDeadlock-hang, IsHang-deadlock}
use Rattle.wq_commands.proofs.laws.workqueues_that_have_rescuers_are_an_assignment.Goals as goal

pub returns-clause-safe : goal.returns-clause-safe
returns-clause-safe c = safe-rescued

pub returns-clause-deadlocks : goal.returns-clause-deadlocks
returns-clause-deadlocks c = λ d ws steps all. deadlock-rescued d ws all steps

pub returns-clause-ends : goal.returns-clause-ends
returns-clause-ends c = λ d ws steps e all. end-rescued d ws all steps e

pub returns-clause-waits : goal.returns-clause-waits
returns-clause-waits c = waits-rescued

pub returns-clause-graph : goal.returns-clause-graph
returns-clause-graph c = graph-rescued

pub returns-clause-run : goal.returns-clause-run
returns-clause-run c = λ d ws steps declaration few all. (IsDeadlock-hang d ws all declaration few steps, IsHang-deadlock d ws all steps)
