use Rattle.wq_plan.proofs.Plans.{IsLeast-plan}
use Rattle.wq_plan.proofs.laws.a_plan_is_least.Goals as goal

pub returns : goal.returns
returns c = IsLeast-plan
