use Rattle.std.proofs.Common.{map}
use Rattle.wq_circles.proofs.Turned.{AreTailsUpTo}
use Rattle.wq_circles.proofs.lists.tails.Given as goal

abbrev pub invariant-loop-v : goal.invariant-loop-v
invariant-loop-v g l = AreTailsUpTo (map (λ list. list.items) l.heads) (map (λ list. list.items) l.lists.items) l.v
