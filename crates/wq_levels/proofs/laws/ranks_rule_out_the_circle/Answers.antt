use Rattle.wq_levels.proofs.Ranks.{AreRanks-no_circle}
use Rattle.wq_levels.proofs.OneCircle.{AreRanks-no_walk}
use Rattle.wq_levels.proofs.laws.ranks_rule_out_the_circle.Goals as goal

pub returns-clause-walked : goal.returns-clause-walked
returns-clause-walked c = λ graph ranks circle sound. AreRanks-no_walk graph sound ranks circle

pub returns-clause-any : goal.returns-clause-any
returns-clause-any c = λ graph ranks. AreRanks-no_circle graph ranks
