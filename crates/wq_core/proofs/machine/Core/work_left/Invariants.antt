use Rattle.std.proofs.Common.{◌≡◌, ◌≤◌, ◌*◌, sum_by, take}
use Rattle.wq_core.specs.Work.{lane_work}
use Rattle.wq_core.proofs.machine.Core.work_left.Given as goal

abbrev pub invariant-loop-q : goal.invariant-loop-q
invariant-loop-q g l = record {
  so_far : l.work ≡ sum_by (lane_work l.self.wiring) (take l.q l.self.state.lanes);
  few : l.work ≤ l.q * 134520850;
}
