use Rattle.wq_graph.specs.Graph.{group_graph}
use Rattle.wq_graph.proofs.Graphs.{IsGraph-group_graph}
use Rattle.wq_levels.proofs.OneCircle.{IsWalkedCircle-unique}
use Rattle.wq_plan.proofs.laws.printed_circle_is_unique.Goals as goal

pub returns : goal.returns
returns c = λ d one other is first second. IsWalkedCircle-unique (group_graph d) (IsGraph-group_graph d is) one other first second
