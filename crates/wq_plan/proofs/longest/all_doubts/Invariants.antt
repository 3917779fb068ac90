use Rattle.std.proofs.Common.{[], take, false, slice_index_or}
use Rattle.wq_plan.proofs.Doubts.{AreKnownSoFar}
use Rattle.wq_plan.proofs.longest.all_doubts.Given as goal

abbrev pub invariant-loop-above : goal.invariant-loop-above
invariant-loop-above g l = AreKnownSoFar (λ place. slice_index_or l.unsure place false) l.graph l.lane l.above []
    l.doubts.items

abbrev pub invariant-loop-vertex : goal.invariant-loop-vertex
invariant-loop-vertex g l = AreKnownSoFar (λ place. slice_index_or l.unsure place false) l.graph l.lane l.above
    (take l.vertex-index l.vertex-items) l.doubts.items
