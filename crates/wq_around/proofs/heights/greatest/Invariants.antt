use Rattle.std.proofs.Common.{◌≡◌, map, fold, max, take, slice_index}
use Rattle.wq_graph.specs.declared.arc.WaitArc.{WaitArc}
use Rattle.wq_around.proofs.heights.greatest.Given as goal

abbrev pub invariant-loop-arc : goal.invariant-loop-arc
invariant-loop-arc l =
    l.most ≡ fold max 0 (map (λ (a : WaitArc). slice_index l.heights a.head) (take l.arc-index l.arcs))
