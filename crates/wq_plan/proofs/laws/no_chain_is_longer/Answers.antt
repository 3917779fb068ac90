use Rattle.wq_plan.proofs.Plans.{IsPlan-most}
use Rattle.wq_plan.proofs.laws.no_chain_is_longer.Goals as goal

pub returns : goal.returns
returns c = λ d a vs plan chain below. IsPlan-most d a plan vs chain below
