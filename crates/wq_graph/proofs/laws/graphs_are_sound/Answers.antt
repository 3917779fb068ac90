use Rattle.wq_graph.proofs.Graphs.{IsGraph-group_graph, IsGraph-lane_graph}
use Rattle.wq_graph.proofs.laws.graphs_are_sound.Goals as goal

pub returns-clause-groups : goal.returns-clause-groups
returns-clause-groups c = IsGraph-group_graph

pub returns-clause-lanes : goal.returns-clause-lanes
returns-clause-lanes c = IsGraph-lane_graph
