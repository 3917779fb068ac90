use Rattle.std.proofs.Common.{◌≤◌, ◌-◌, length, map}
use Rattle.wq_circles.proofs.Searched.{IsSpreading}
use Rattle.wq_circles.proofs.together.spread.Given as goal

abbrev pub invariant-loop-vertex : goal.invariant-loop-vertex
invariant-loop-vertex g l = record {
  looked : IsSpreading (map (λ list. list.items) l.lists) l.fn.found l.root l.found l.place;
  from : length l.fn.found.order ≤ l.place;
}

abbrev pub decreases-loop-vertex : goal.decreases-loop-vertex
decreases-loop-vertex g l = length l.lists - l.place
