use Rattle.wq_history.proofs.book.Book.waiting_in.Goals as goal

pub returns-in_default-clause-none : goal.returns-in_default-clause-none
returns-in_default-clause-none g c f by = c.in_default.ensures.none f by.0
