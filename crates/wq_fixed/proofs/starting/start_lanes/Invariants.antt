use Rattle.std.proofs.Common.{◌≡◌, ◌+◌, take}
use Rattle.std.specs.List.{count_by}
use Rattle.wq_fixed.specs.Fixed.{has_none, start_lanes}
use Rattle.wq_fixed.proofs.starting.start_lanes.Given as goal

abbrev pub invariant-loop-lane : goal.invariant-loop-lane
invariant-loop-lane g l =
    (l.lanes.items ≡ start_lanes l.first (take l.lane-index l.lane_of_group))
    × (l.next ≡ l.first + count_by has_none (take l.lane-index l.lane_of_group))
