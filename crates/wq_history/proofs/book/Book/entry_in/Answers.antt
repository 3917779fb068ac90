use Rattle.wq_history.proofs.Holding.{running-known}
use Rattle.wq_history.proofs.book.Book.entry_in.Goals as goal

pub returns-clause-known : goal.returns-clause-known
returns-clause-known g c =
    rw (← c.self.view_is)
    (running-known c.self.inside.core c.args.context.now.lane c.args.context.now.number c.running_in.result
    c.running_in.ensures.machine c.running_in.ensures.running)
