use Rattle.wq_plan.proofs.Plans.{IsPlan-lanes}
use Rattle.wq_plan.proofs.laws.lanes_are_few.Goals as goal

pub returns : goal.returns
returns c = λ d a is plan. IsPlan-lanes d is a plan
