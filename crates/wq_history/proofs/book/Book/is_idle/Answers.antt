use Rattle.std.proofs.Common.{eqb, refl}
use Rattle.wq_history.proofs.Idle.{idle-answer}
use Rattle.wq_history.proofs.book.Book.is_idle.Goals as goal

pub returns : goal.returns
returns g c =
    let b = c.self.inside in
    let holds = c.self.invariant in
    rw (← c.self.view_is, ← holds.replays.replay)
    (idle-answer b.core.wiring b.core.state b.work (eqb b.work 0) holds.replays.machine_is.state holds.work_is refl)
