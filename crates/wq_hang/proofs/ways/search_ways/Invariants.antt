use Rattle.wq_hang.specs.WaysFor.{AreWaysSoFar}
use Rattle.wq_hang.proofs.Reaching.{work}
use Rattle.wq_hang.proofs.ways.search_ways.Given as goal

abbrev pub invariant-loop-item : goal.invariant-loop-item
invariant-loop-item g l = AreWaysSoFar l.waits l.fn.starts l.limit l.search

abbrev pub decreases-loop-item : goal.decreases-loop-item
decreases-loop-item g l = work l.search
