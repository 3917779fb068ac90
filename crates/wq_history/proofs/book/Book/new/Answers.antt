use Rattle.std.proofs.Common.{arith}
use Rattle.wq_history.proofs.Holding.{HoldsBook-first}
use Rattle.wq_history.proofs.book.Book.new.Goals as goal

pub invariant_of-result : goal.invariant_of-result
invariant_of-result g c =
    rw c.in_ok-history.ensures.history
    (HoldsBook-first c.args.core c.args.rows c.in_ok-asks.asks c.items.ensures.machine c.requires
    (omega (arith, c.if-rows-gt-MAX_ROWS.false))
    (rw (c.items.ensures.items, c.lanes.ensures.lanes) at c.in_ok-asks.ensures.counts))
