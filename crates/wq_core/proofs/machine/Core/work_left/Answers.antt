use Rattle.std.proofs.Common.{◌<◌, length, arith}
use Rattle.wq_core.proofs.WorkBounds.{work_left-more, work_left-all, work_left-machine}
use Rattle.wq_core.proofs.machine.Core.work_left.Goals as goal

pub loop-q-preserved : goal.loop-q-preserved
loop-q-preserved g c =
    let m = c.args.self.now in
    let within : c.loop-q.q < length m.state.lanes = omega (arith, c.loop-q-test.true, c.lanes-q-end.ensures.lanes, c.lanes-q-end.ensures.machine.state.one_each) in
    record {
      so_far = work_left-more m.wiring m.state c.loop-q.q c.new.result c.loop-q.work c.lane_work-work.result within c.new.ensures c.loop-q.invariant.so_far c.lane_work-work.ensures.work;
      few = omega (arith, c.loop-q.invariant.few, c.lane_work-work.ensures.few);
    }

pub returns-clause-work : goal.returns-clause-work
returns-clause-work g c =
    let m = c.args.self.now in
    work_left-all m.wiring m.state c.loop-q.q c.loop-q.work (omega (arith, c.loop-q-test.false, c.lanes-q-end.ensures.lanes, c.lanes-q-end.ensures.machine.state.one_each)) c.loop-q.invariant.so_far

pub returns-clause-few : goal.returns-clause-few
returns-clause-few g c =
    let m = c.args.self.now in
    let all = work_left-all m.wiring m.state c.loop-q.q c.loop-q.work (omega (arith, c.loop-q-test.false, c.lanes-q-end.ensures.lanes, c.lanes-q-end.ensures.machine.state.one_each)) c.loop-q.invariant.so_far in
    omega (arith, all, work_left-machine m c.lanes-q-end.ensures.machine)
