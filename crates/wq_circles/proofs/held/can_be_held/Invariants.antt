use Rattle.std.proofs.Common.{map, flat_map, take, length}
use Rattle.wq_groups.specs.DeclaredGroups.{declared_waits}
use Rattle.wq_circles.specs.Held.{FindsAll, beginnings}
use Rattle.wq_circles.proofs.HeldSearch.{none_found}
use Rattle.wq_circles.proofs.held.can_be_held.Given as goal

abbrev pub invariant-loop-arcs : goal.invariant-loop-arcs
invariant-loop-arcs g l =
    FindsAll (map (λ v. v.items) l.tails) (none_found (length l.tails))
    (beginnings (declared_waits l.assigned.declared) l.assigned.workqueues
    (flat_map (λ m. m) (map (λ v. v.items) (take l.arcs-index l.components)))) l.found
