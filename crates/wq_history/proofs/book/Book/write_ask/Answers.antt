use Rattle.std.proofs.Common.{true, false}
use Rattle.wq_history.proofs.WaitEvents.{ask-exactly}
use Rattle.wq_history.proofs.book.Book.write_ask.Goals as goal

pub note-requires-clause-may : goal.note-requires-clause-may
note-requires-clause-may g c =
    let b = c.args.self.now in
    rw c.ask.ensures
    ((ask-exactly b.wiring b.rows c.args.subject.now true c.next_number-mark.result).1 (
      c.requires,
      c.if-is_unfinished.ensures,
      rw (← c.self.view_is, ← c.self.invariant.replays.replay) c.next_number-mark.ensures.number,
    ))

pub note-requires-2-clause-may : goal.note-requires-2-clause-may
note-requires-2-clause-may g c =
    let b = c.args.self.now in
    rw c.ask-2.ensures
    ((ask-exactly b.wiring b.rows c.args.subject.now false c.next_number-mark.result).1 (
      c.requires,
      c.if-is_unfinished.ensures,
      rw (← c.self.view_is, ← c.self.invariant.replays.replay) c.next_number-mark.ensures.number,
    ))
