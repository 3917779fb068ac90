use Rattle.wq_core.proofs.LaneCircles.{Circle-few_lanes, Circle-lanes}
use Rattle.wq_core.proofs.laws.lanes_come_to_wait_in_a_circle.Goals as goal

pub returns-clause-of_a_chain : goal.returns-clause-of_a_chain
returns-clause-of_a_chain c = Circle-few_lanes

pub returns-clause-of_a_circle : goal.returns-clause-of_a_circle
returns-clause-of_a_circle c = Circle-lanes
