use Rattle.wq_plan.proofs.Plans.{IsPlan-falls}
use Rattle.wq_plan.proofs.laws.lanes_fall.Goals as goal

pub returns : goal.returns
returns c = λ d a g h plan group waits. IsPlan-falls d a plan g h group waits
