use Rattle.std.proofs.Common.{◌≡◌, take, map}
use Rattle.std.specs.Prelude.{slice_index}
use Rattle.wq_circles.proofs.joining.joined_lanes.Given as goal

abbrev pub invariant-loop-g : goal.invariant-loop-g
invariant-loop-g g l =
    l.lanes.items ≡ map (slice_index l.lowest) (take l.g l.assigned.workqueues.assignment.lane_of_group)
