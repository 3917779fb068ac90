use Rattle.wq_levels.proofs.Existence.{AreRanks-or_walk}
use Rattle.wq_levels.proofs.laws.a_graph_has_ranks_or_a_circle.Goals as goal

pub returns : goal.returns
returns c = λ graph sound. AreRanks-or_walk graph sound
