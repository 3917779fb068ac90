use Rattle.wq_levels.proofs.Ranks.{AreRanks-fall, AreRanks-next, AreRanks-few}
use Rattle.wq_levels.proofs.laws.ranks_fall_along_arcs.Goals as goal

pub returns-clause-fall : goal.returns-clause-fall
returns-clause-fall c = λ graph ranks v w sound are. AreRanks-fall graph ranks sound are v w

pub returns-clause-by_one : goal.returns-clause-by_one
returns-clause-by_one c = λ graph ranks v r sound are. AreRanks-next graph ranks sound are v r

pub returns-clause-few : goal.returns-clause-few
returns-clause-few c = λ graph ranks. AreRanks-few graph ranks
