use Rattle.std.proofs.Common.{◌≡◌, map, take}
use Rattle.wq_around.specs.Planned.{planned_lane}
use Rattle.wq_around.proofs.placing.planned_lanes.Given as goal

abbrev pub invariant-loop-lane : goal.invariant-loop-lane
invariant-loop-lane g l = l.lanes.items ≡ map (planned_lane l.heights l.new) (take l.lane-index l.start)
