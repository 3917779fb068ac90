use Rattle.std.proofs.Common.{◌≡◌, map, take}
use Rattle.std.specs.Prelude.{filter}
use Rattle.wq_groups.specs.DeclaredGroups.{declared_waits}
use Rattle.wq_circles.specs.Held.{is_marked_component}
use Rattle.wq_circles.proofs.held.led_components.Given as goal

abbrev pub invariant-loop-arcs : goal.invariant-loop-arcs
invariant-loop-arcs g l =
    map (λ v. v.items) l.some.items
    ≡ filter (is_marked_component (declared_waits l.assigned.declared) l.assigned.workqueues l.led.marks)
    (take l.arcs-index (map (λ v. v.items) l.components))
