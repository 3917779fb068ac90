use Rattle.std.proofs.Common.{◌≡◌, map, take}
use Rattle.std.specs.List.{range_with_len}
use Rattle.wq_core.specs.Building.{counted_shape}
use Rattle.wq_core.proofs.building.count_items.Given as goal

abbrev pub invariant-loop-lane : goal.invariant-loop-lane
invariant-loop-lane g l = l.shapes.items ≡ map (counted_shape (take l.lane-index l.lane_of_item)) (range_with_len 0 l.lanes)
