use Rattle.std.proofs.Common.{sym}
use Rattle.wq_core.proofs.Machines.{running-item}
use Rattle.wq_core.proofs.machine.Core.running_work.Goals as goal

pub whole_work-requires : goal.whole_work-requires
whole_work-requires g c =
    let m = c.args.self.now in
    running-item m.wiring m.state c.args.context.lane c.args.context.number c.in-Some.running
    c.in-Some.ensures.machine.state (sym c.in-Some.ensures.running)
