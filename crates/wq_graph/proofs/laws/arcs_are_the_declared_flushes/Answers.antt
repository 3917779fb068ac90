use Rattle.wq_graph.proofs.Graphs.{AreArcsFrom-arcs_from, AreArcsFrom-group_graph, AreArcsFrom-lane_graph}
use Rattle.wq_graph.proofs.laws.arcs_are_the_declared_flushes.Goals as goal

pub returns-clause-from : goal.returns-clause-from
returns-clause-from c d vertex_of v h = AreArcsFrom-arcs_from d.waits vertex_of h.places_are_numbered v

pub returns-clause-graph : goal.returns-clause-graph
returns-clause-graph c d g h = AreArcsFrom-group_graph d h g

pub returns-clause-lanes : goal.returns-clause-lanes
returns-clause-lanes c d a q h assignment = AreArcsFrom-lane_graph d a h assignment q
