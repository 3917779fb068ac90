use Rattle.std.proofs.Common.{◌≡◌, ◌<◌, true, false, refl, arith}
use Rattle.wq_history.proofs.Words.{asks_waiting, state, IsUnfinishedBelow}
use Rattle.wq_history.proofs.WaitEvents.{told-exactly}
use Rattle.wq_history.proofs.book.Book.answer_told.Goals as goal

pub note-requires-clause-may : goal.note-requires-clause-may
note-requires-clause-may g c =
    let b = c.args.self.now in
    let some : 0 < asks_waiting c.args.subject b.rows =
    omega (arith, c.asks_waiting.ensures, c.if-asks_waiting-eq0.false) in
    let done : ¬ IsUnfinishedBelow (state b) c.args.subject c.args.mark =
    λ unfinished. absurd (let never : false ≡ true = c.if-unfinished_below.ensures.1 unfinished in cc) in
    rw c.told.ensures ((told-exactly b.wiring b.rows c.args.subject true c.args.mark).1 (refl, some, done))
