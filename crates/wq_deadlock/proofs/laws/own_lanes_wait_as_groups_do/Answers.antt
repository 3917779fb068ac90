use Rattle.wq_deadlock.proofs.OwnLanes.{lane_graph-own_lanes}
use Rattle.wq_deadlock.proofs.laws.own_lanes_wait_as_groups_do.Goals as goal

pub returns : goal.returns
returns c = lane_graph-own_lanes
