use Rattle.wq_levels.proofs.Ranks.{AreRanks-unique}
use Rattle.wq_levels.proofs.laws.the_ranks_are_the_only_ones.Goals as goal

pub returns : goal.returns
returns c = λ graph one other. AreRanks-unique graph one other
