use Rattle.std.proofs.Common.{map, take}
use Rattle.wq_circles.specs.Held.{HasMarked, places_of}
use Rattle.wq_circles.proofs.held.in_components.Given as goal

abbrev pub invariant-loop-arcs : goal.invariant-loop-arcs
invariant-loop-arcs g l =
    HasMarked (places_of (map (λ v. v.items) (take l.arcs-index l.components))) l.initial.marks.items l.marks.items
