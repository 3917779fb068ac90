use Rattle.std.proofs.Common.{map, take}
use Rattle.wq_graph.specs.declared.arc.WaitArc.{WaitArc}
use Rattle.wq_circles.specs.Held.{HasMarked}
use Rattle.wq_circles.proofs.held.mark_places.Given as goal

abbrev pub invariant-loop-arc : goal.invariant-loop-arc
invariant-loop-arc l = HasMarked (map (λ (a : WaitArc). a.place) (take l.arc-index l.arcs)) l.initial.marks l.marks
