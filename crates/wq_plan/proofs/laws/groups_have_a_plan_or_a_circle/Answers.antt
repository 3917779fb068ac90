use Rattle.wq_plan.proofs.Existence.{IsPlan-or_circle}
use Rattle.wq_plan.proofs.laws.groups_have_a_plan_or_a_circle.Goals as goal

pub returns : goal.returns
returns c = λ d is. IsPlan-or_circle d is
