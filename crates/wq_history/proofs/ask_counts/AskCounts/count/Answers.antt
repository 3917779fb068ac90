use Rattle.wq_history.proofs.Words.{OfItem, OfLane}
use Rattle.wq_history.proofs.ask_counts.AskCounts.count.Goals as goal

pub add-requires-clause-place : goal.add-requires-clause-place
add-requires-clause-place g c = c.requires.place (OfItem c.in-Ask.item) c.in-Ask.is

pub add-requires-then-yes-2-clause-place : goal.add-requires-then-yes-2-clause-place
add-requires-then-yes-2-clause-place g c = c.requires.place (OfLane c.in-AskLane.q) c.in-AskLane.is
