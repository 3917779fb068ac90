use Rattle.wq_core.proofs.Least.{IsLeast-chain}
use Rattle.wq_core.proofs.laws.a_chain_as_long_shows_the_least.Goals as goal

pub returns : goal.returns
returns c = IsLeast-chain
