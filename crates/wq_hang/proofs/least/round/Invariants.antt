use Rattle.wq_hang.proofs.RoundsFound.{IsTrace, cost_before}
use Rattle.wq_hang.proofs.least.round.Given as goal

abbrev pub invariant-loop-first : goal.invariant-loop-first
invariant-loop-first g l = IsTrace l.waits l.first l.limit l.search l.hop l.hops.items

abbrev pub decreases-loop-first : goal.decreases-loop-first
decreases-loop-first g l = cost_before l.first l.search l.hop.item
