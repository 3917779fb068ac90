use Rattle.std.proofs.Common.{◌≡◌, map}
use Rattle.std.specs.List.{range_with_len}
use Rattle.wq_core.proofs.Parts.{shape_before}
use Rattle.wq_core.proofs.building.lane_shapes.Given as goal

abbrev pub invariant-loop-number : goal.invariant-loop-number
invariant-loop-number g l = l.shapes.items ≡ map (shape_before l.assignment l.groups l.lane_of_item l.assignment.lanes l.number) (range_with_len 0 l.assignment.lanes)
