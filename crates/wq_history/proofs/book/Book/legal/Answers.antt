use Rattle.wq_history.proofs.Holding.{IsBook-held}
use Rattle.wq_history.proofs.book.Book.legal.Goals as goal

pub returns : goal.returns
returns g c =
    let b = c.self.inside in
    rw (← c.self.view_is)
    (IsBook-held b.core b.history.rows b.history.room b.asks b.work b.closed c.self.invariant)
