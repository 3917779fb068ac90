use Rattle.std.proofs.Common.{◌≡◌, ◌==◌, List, map, length}
use Rattle.std.specs.Prelude.{filter, not}
use Rattle.std.specs.List.{range_with_len}
use Rattle.wq_graph.specs.declared.arc.WaitArc.{WaitArc}
use Rattle.wq_circles.specs.Components.{loops_at}
use Rattle.wq_circles.proofs.joining.loops.Given as goal

abbrev pub invariant-loop-vertex : goal.invariant-loop-vertex
invariant-loop-vertex g l = map (λ v. v.items) l.lists.items ≡ filter (λ (arcs : List WaitArc). not (length arcs == 0)) (map (loops_at l.graph) (range_with_len 0 l.vertex))
