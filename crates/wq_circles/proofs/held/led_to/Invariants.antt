use Rattle.std.proofs.Common.{map, take, length}
use Rattle.wq_groups.specs.DeclaredGroups.{declared_waits}
use Rattle.wq_circles.specs.Held.{FindsAll}
use Rattle.wq_circles.proofs.HeldMarks.{rescued_lanes}
use Rattle.wq_circles.proofs.HeldSearch.{none_found}
use Rattle.wq_circles.proofs.held.led_to.Given as goal

abbrev pub invariant-loop-item : goal.invariant-loop-item
invariant-loop-item g l =
    FindsAll (map (λ v. v.items) l.heads) (none_found (length l.heads))
    (rescued_lanes (declared_waits l.assigned.declared) l.assigned.workqueues (take l.item-index l.named)) l.found
