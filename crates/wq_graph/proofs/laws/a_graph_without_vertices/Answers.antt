use Rattle.wq_graph.proofs.LeavingOut.{HasArc-without, IsGraph-without, without-none}
use Rattle.wq_graph.proofs.laws.a_graph_without_vertices.Goals as goal

pub returns-clause-arcs : goal.returns-clause-arcs
returns-clause-arcs c = HasArc-without

pub returns-clause-sound : goal.returns-clause-sound
returns-clause-sound c = IsGraph-without

pub returns-clause-same : goal.returns-clause-same
returns-clause-same c = λ out graph none. without-none out graph none
