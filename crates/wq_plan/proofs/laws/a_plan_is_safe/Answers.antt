use Rattle.wq_plan.proofs.Plans.{IsSafe-plan}
use Rattle.wq_plan.proofs.laws.a_plan_is_safe.Goals as goal

pub returns : goal.returns
returns c = IsSafe-plan
