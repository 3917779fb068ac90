use Rattle.wq_core.proofs.DeclaredSteps.{declared_steps_equal}
use Rattle.wq_core.proofs.laws.a_lane_has_one_declared_step.Goals as goal

pub returns : goal.returns
returns c = declared_steps_equal
