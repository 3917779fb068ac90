use Rattle.std.specs.Prelude.{slice_index}
use Rattle.wq_hang.proofs.WaysFound.{IsTraceTo}
use Rattle.wq_hang.proofs.ways.way_to.Given as goal

abbrev pub invariant-loop-at : goal.invariant-loop-at
invariant-loop-at g l = IsTraceTo l.waits l.ways l.fn.item l.at l.hops.items

abbrev pub decreases-loop-at : goal.decreases-loop-at
decreases-loop-at g l = slice_index l.ways.costs l.at
