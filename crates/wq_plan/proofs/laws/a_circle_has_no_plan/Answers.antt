use Rattle.wq_plan.proofs.Plans.{IsPlan-no_circle}
use Rattle.wq_plan.proofs.laws.a_circle_has_no_plan.Goals as goal

pub returns : goal.returns
returns c = λ d a circle plan. IsPlan-no_circle d a plan circle
