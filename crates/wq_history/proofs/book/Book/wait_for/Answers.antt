use Rattle.wq_history.proofs.book.Book.wait_for.Goals as goal

pub returns-in_default-clause-none : goal.returns-in_default-clause-none
returns-in_default-clause-none g c waits = c.in_default.ensures.none waits.0 waits.1.0
