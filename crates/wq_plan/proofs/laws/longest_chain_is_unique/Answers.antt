use Rattle.wq_plan.proofs.UniqueChain.{IsLongestChain-unique}
use Rattle.wq_plan.proofs.laws.longest_chain_is_unique.Goals as goal

pub returns : goal.returns
returns c = λ d a one other is first second. IsLongestChain-unique d a is one other first second
