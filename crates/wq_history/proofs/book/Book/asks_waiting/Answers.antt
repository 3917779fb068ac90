use Rattle.std.proofs.Common.{◌∙◌}
use Rattle.wq_history.proofs.Counting.{asks_waiting-count}
use Rattle.wq_history.proofs.book.Book.asks_waiting.Goals as goal

pub returns : goal.returns
returns g c =
    let b = c.self.inside in
    let counts = c.self.invariant.replays.asked.counts in
    rw (← c.self.view_is) (c.of.ensures ∙ asks_waiting-count b.history.rows b.asks c.args.subject.now counts)
