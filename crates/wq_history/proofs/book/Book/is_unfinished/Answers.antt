use Rattle.wq_history.proofs.book.Book.is_unfinished.Goals as goal

pub returns-in-Lane : goal.returns-in-Lane
returns-in-Lane g c =
    rw (c.in-Lane.is, ← c.self.view_is, ← c.self.invariant.replays.replay) c.is_busy.ensures
