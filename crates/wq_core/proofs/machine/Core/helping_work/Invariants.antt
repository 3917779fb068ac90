use Rattle.std.proofs.Common.{◌≡◌, ◌≤◌, ◌*◌, sum_by, take}
use Rattle.wq_core.specs.State.{lane_at}
use Rattle.wq_core.specs.Work.{running_work}
use Rattle.wq_core.proofs.machine.Core.helping_work.Given as goal

abbrev pub invariant-loop-before : goal.invariant-loop-before
invariant-loop-before g l = record {
  so_far : l.work ≡ sum_by (running_work l.self.wiring) (take l.before (lane_at l.self.state l.fn.q).helping);
  few : l.work ≤ l.before * 32770;
}
