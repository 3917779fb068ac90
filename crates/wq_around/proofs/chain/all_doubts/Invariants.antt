use Rattle.std.proofs.Common.{[], take, false, slice_index_or}
use Rattle.wq_around.proofs.DoubtLemmas.{AreDoubtsSoFar}
use Rattle.wq_around.proofs.chain.all_doubts.Given as goal

abbrev pub invariant-loop-rank : goal.invariant-loop-rank
invariant-loop-rank g l =
    AreDoubtsSoFar (λ place. slice_index_or l.unsure place false) l.graph l.new l.heights l.ranks l.rank []
    l.doubts.items

abbrev pub invariant-loop-place : goal.invariant-loop-place
invariant-loop-place g l =
    AreDoubtsSoFar (λ place. slice_index_or l.unsure place false) l.graph l.new l.heights l.ranks l.rank
    (take l.place-index l.place-items) l.doubts.items
