use Rattle.wq_graph.proofs.Graphs.{GroupWaits-HasArc}
use Rattle.wq_graph.proofs.laws.groups_wait_along_arcs.Goals as goal

pub returns : goal.returns
returns c d g h declaration = GroupWaits-HasArc d declaration g h
