use Rattle.wq_plan.proofs.Plans.{IsPlan-unique}
use Rattle.wq_plan.proofs.laws.plan_is_unique.Goals as goal

pub returns : goal.returns
returns c = λ d a b one other. IsPlan-unique d a b one other
