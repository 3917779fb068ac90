use Rattle.std.proofs.Common.{◌<◌, length, arith}
use Rattle.wq_core.specs.State.{lane_at}
use Rattle.wq_core.proofs.WorkBounds.{helping_work-more, helping_work-all}
use Rattle.wq_core.proofs.machine.Core.helping_work.Goals as goal

pub loop-before-preserved : goal.loop-before-preserved
loop-before-preserved g c =
    let m = c.args.self.now in
    let machine = c.helpers_of-count.ensures.machine in
    let within : c.loop-before.before < length (lane_at m.state c.args.q).helping = omega (arith, c.loop-before-test.true, c.helpers_of-count.ensures.few, machine.state.places c.args.q) in
    record {
      so_far = helping_work-more m.wiring (lane_at m.state c.args.q) c.loop-before.before c.loop-before.work c.running_work-work.result within c.loop-before.invariant.so_far c.running_work-work.ensures.work;
      few = omega (arith, c.loop-before.invariant.few, c.running_work-work.ensures.few);
    }

pub returns-clause-work : goal.returns-clause-work
returns-clause-work g c =
    let m = c.args.self.now in
    let machine = c.helpers_of-count.ensures.machine in
    helping_work-all m.wiring m.state c.args.q c.loop-before.before c.loop-before.work machine.state (omega (arith, c.loop-before-test.false, c.helpers_of-count.ensures.helpers)) c.loop-before.invariant.so_far
