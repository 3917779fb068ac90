use Rattle.std.proofs.Common.{map}
use Rattle.wq_circles.proofs.Completed.{AreFoundFrom}
use Rattle.wq_circles.proofs.together.lowest_of_components.Given as goal

abbrev pub invariant-loop-place : goal.invariant-loop-place
invariant-loop-place g l = AreFoundFrom (map (λ list. list.items) l.tails) l.finished l.place l.found l.lowest.items
