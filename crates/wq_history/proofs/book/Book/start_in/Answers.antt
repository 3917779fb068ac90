use Rattle.wq_history.proofs.Upheld.{start_there}
use Rattle.wq_history.proofs.book.Book.start_in.Goals as goal

pub returns-in-Ok-Wrote-clause-known : goal.returns-in-Ok-Wrote-clause-known
returns-in-Ok-Wrote-clause-known g c =
    let wrote = rw c.in-Ok-Wrote.field-0-is at c.in-Ok-Wrote.ensures in
    let there = start_there c.args.self.now c.answer.new.self c.args.context c.in-Ok-Wrote.row c.legal.ensures wrote in
    rw c.item.ensures (there.1, there.2)
