use Rattle.std.proofs.Common.{sym}
use Rattle.wq_core.proofs.LawfulSteps.{waiting-target}
use Rattle.wq_deadlock.proofs.playing.holder.Goals as goal

pub holder-requires : goal.holder-requires
holder-requires g c =
    let m = c.args.core.now in
    waiting-target m.wiring m.state c.args.q 0 c.in_ok-running.running c.in_ok-flush.flush c.running_on.ensures.machine.wiring c.running_on.ensures.machine.state (sym c.in_ok-running.ensures.running) c.in_ok-flush.was
