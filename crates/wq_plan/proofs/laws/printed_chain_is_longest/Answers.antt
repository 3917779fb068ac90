use Rattle.wq_plan.proofs.LongestChain.{chain_of-longest}
use Rattle.wq_plan.proofs.laws.printed_chain_is_longest.Goals as goal

pub returns : goal.returns
returns c = λ d a is plan. chain_of-longest d is a plan
