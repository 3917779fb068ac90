use Rattle.std.proofs.Common.{◌≡◌, take}
use Rattle.wq_groups.proofs.assignment.Assignment.lanes_of_groups.Given as goal

-- the lanes of the groups so far
abbrev pub invariant-loop-lane : goal.invariant-loop-lane
invariant-loop-lane g l = l.lanes.items ≡ take l.lane-index l.self.lane_of_group
