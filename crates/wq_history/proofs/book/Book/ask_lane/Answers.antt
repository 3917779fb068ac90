use Rattle.wq_history.proofs.Words.{OfLane}
use Rattle.wq_history.proofs.Upheld.{ask_takes}
use Rattle.wq_history.proofs.book.Book.ask_lane.Goals as goal

pub returns-then-row-clause-left : goal.returns-then-row-clause-left
returns-then-row-clause-left g c =
    ask_takes c.args.self.now c.row.new.self (OfLane c.args.q) c.in_ok-row.row c.in_ok-row.ensures

pub returns-else-row-clause-left : goal.returns-else-row-clause-left
returns-else-row-clause-left g c =
    ask_takes c.args.self.now c.row.new.self (OfLane c.args.q) c.in_ok-row.row c.in_ok-row.ensures
