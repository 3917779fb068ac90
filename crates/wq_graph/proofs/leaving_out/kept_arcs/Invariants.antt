use Rattle.std.proofs.Common.{◌≡◌, [], map}
use Rattle.std.specs.List.{range_with_len}
use Rattle.wq_graph.specs.Graph.{arcs_without}
use Rattle.wq_graph.proofs.leaving_out.kept_arcs.Given as goal

abbrev pub invariant-loop-vertex : goal.invariant-loop-vertex
invariant-loop-vertex g l = (l.kept.pieces ≡ map (arcs_without l.left_out l.graph) (range_with_len 0 l.vertex)) ×
    (l.kept.next ≡ [])
