use Rattle.std.proofs.Common.{◌+◌, ◌==◌, false, cond, take, slice_index, slice_index_or}
use Rattle.std.specs.Prelude.{filter}
use Rattle.wq_graph.specs.declared.arc.WaitArc.{WaitArc}
use Rattle.wq_plan.proofs.LeastOf.{IsLeastSoFar}
use Rattle.wq_plan.proofs.longest.fewest_doubts.Given as goal

abbrev pub invariant-loop-arc : goal.invariant-loop-arc
invariant-loop-arc l =
    IsLeastSoFar (λ (a : WaitArc). slice_index l.doubts a.head + cond (slice_index_or l.unsure a.place false) 1 0)
    (filter (λ (a : WaitArc). slice_index l.lane a.head == l.on) (take l.arc-index l.arcs)) l.fewest
