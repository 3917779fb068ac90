use Rattle.std.proofs.Common.{◌≡◌, take}
use Rattle.std.specs.Prelude.{filter}
use Rattle.wq_groups.specs.DeclaredGroups.{declared_waits}
use Rattle.wq_circles.specs.Held.{begins_marked}
use Rattle.wq_circles.proofs.held.led_among.Given as goal

abbrev pub invariant-loop-arc : goal.invariant-loop-arc
invariant-loop-arc g l =
    l.some.items ≡ filter (begins_marked (declared_waits l.assigned.declared) l.assigned.workqueues l.led.marks)
    (take l.arc-index l.arcs)
