use Rattle.wq_held.proofs.IdleLanes.{idle-of_lane, idle-of_wiring}
use Rattle.wq_held.proofs.laws.a_rescuer_without_helpers_that_has_nothing_to_start_has_an_idle_lane.Goals as goal

pub returns-clause-of_a_lane : goal.returns-clause-of_a_lane
returns-clause-of_a_lane c = idle-of_lane

pub returns-clause-of_a_wiring : goal.returns-clause-of_a_wiring
returns-clause-of_a_wiring c = idle-of_wiring
