use Rattle.std.proofs.Common.{◌-◌, ◌*◌, length, map}
use Rattle.wq_circles.specs.Finishing.{IsVisited, WentOn, steps_to}
use Rattle.wq_circles.proofs.finishing.walk_from.Given as goal

abbrev pub invariant-loop-vertex : goal.invariant-loop-vertex
invariant-loop-vertex g l = record {
  went_on : WentOn (map (λ list. list.items) l.lists) l.fn.walk l.walk;
  root : IsVisited l.walk l.root;
}

abbrev pub decreases-loop-vertex : goal.decreases-loop-vertex
decreases-loop-vertex g l = 3 * length l.lists - steps_to l.walk
