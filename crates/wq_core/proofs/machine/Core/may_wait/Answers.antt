use Rattle.std.proofs.Common.{sym}
use Rattle.wq_core.proofs.Machines.{running-item}
use Rattle.wq_core.proofs.machine.Core.may_wait.Goals as goal

pub waits-requires : goal.waits-requires
waits-requires g c =
    let m = c.args.self.now in
    running-item m.wiring m.state c.args.context.lane c.args.context.number c.in_ok-running.running
    c.in_ok-running.ensures.machine.state (sym c.in_ok-running.ensures.running)

pub declares-requires : goal.declares-requires
declares-requires g c =
    let m = c.args.self.now in
    running-item m.wiring m.state c.args.context.lane c.args.context.number c.in_ok-running.running
    c.in_ok-running.ensures.machine.state (sym c.in_ok-running.ensures.running)
