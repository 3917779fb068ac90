use Rattle.wq_graph.proofs.Graphs.{same_from_AreArcsFrom}
use Rattle.wq_graph.proofs.laws.arcs_are_the_only_ones.Goals as goal

pub returns : goal.returns
returns c = same_from_AreArcsFrom
