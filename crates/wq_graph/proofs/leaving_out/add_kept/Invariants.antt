use Rattle.std.proofs.Common.{◌≡◌, ◌++◌, take}
use Rattle.wq_graph.specs.Graph.{arcs_kept}
use Rattle.wq_graph.proofs.leaving_out.add_kept.Given as goal

abbrev pub invariant-loop-arc : goal.invariant-loop-arc
invariant-loop-arc g l = (l.kept.pieces ≡ l.fn.kept.pieces) ×
    (l.kept.next ≡ l.fn.kept.next ++ arcs_kept l.left_out (take l.arc-index l.arcs))
