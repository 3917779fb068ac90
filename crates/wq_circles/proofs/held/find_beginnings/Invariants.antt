use Rattle.std.proofs.Common.{map, take}
use Rattle.wq_groups.specs.DeclaredGroups.{declared_waits}
use Rattle.wq_circles.specs.Held.{FindsAll, beginnings}
use Rattle.wq_circles.proofs.held.find_beginnings.Given as goal

abbrev pub invariant-loop-arc : goal.invariant-loop-arc
invariant-loop-arc g l =
    FindsAll (map (λ v. v.items) l.lists) l.fn.found
    (beginnings (declared_waits l.assigned.declared) l.assigned.workqueues (take l.arc-index l.arcs)) l.found
