use Rattle.std.proofs.Common.{sym}
use Rattle.wq_core.proofs.Machines.{running-item}
use Rattle.wq_diagnosis.proofs.unlawful.wait_reason.Goals as goal

pub declares-requires : goal.declares-requires
declares-requires g c =
    let m = c.args.core.now in
    running-item m.wiring m.state c.args.q 0 c.in-Some.running c.in-Some.ensures.machine.state (sym c.in-Some.ensures.running)
