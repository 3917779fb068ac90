use Rattle.wq_hang.specs.Search.{IsGoing}
use Rattle.wq_hang.proofs.Reaching.{work}
use Rattle.wq_hang.proofs.search.search_from.Given as goal

abbrev pub invariant-loop-item : goal.invariant-loop-item
invariant-loop-item g l = IsGoing l.waits l.bounds l.fn.first l.limit l.search

abbrev pub decreases-loop-item : goal.decreases-loop-item
decreases-loop-item g l = work l.search
