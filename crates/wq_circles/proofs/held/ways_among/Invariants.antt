use Rattle.std.proofs.Common.{◌≡◌, map, take}
use Rattle.std.specs.Prelude.{filter}
use Rattle.wq_groups.specs.DeclaredGroups.{declared_waits}
use Rattle.wq_circles.specs.Held.{is_way}
use Rattle.wq_circles.proofs.held.ways_among.Given as goal

abbrev pub invariant-loop-arc : goal.invariant-loop-arc
invariant-loop-arc g l =
    l.ways.items ≡ filter (is_way (declared_waits l.assigned.declared) l.assigned.workqueues l.led.marks l.held.marks
    (map (λ v. v.items) l.components)) (take l.arc-index l.arc-items)
