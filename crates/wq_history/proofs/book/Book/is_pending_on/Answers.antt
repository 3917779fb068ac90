use Rattle.wq_history.proofs.Words.{lane_at}
use Rattle.wq_history.proofs.Holding.{first-pending}
use Rattle.wq_history.proofs.book.Book.is_pending_on.Goals as goal

pub returns : goal.returns
returns g c =
    rw (c.is_some.ensures, ← c.self.view_is, ← c.self.invariant.replays.replay)
    (first-pending (lane_at c.self.inside.core.state c.args.q).pending c.first_on.result c.first_on.ensures.first)
