use Rattle.std.proofs.Common.{◌<◌, ◌+◌, ◌++◌, false, ℕ, List, length, slice_index, slice_index_or}
use Rattle.wq_graph.specs.declared.arc.WaitArc.{WaitArc}
use Rattle.wq_levels.specs.Ranks.{AreRanks}
use Rattle.wq_around.specs.Down.{IsFirstDown}
use Rattle.wq_around.proofs.chain.follow.Given as goal

-- the chain goes on from this lane, and the ranks fall
abbrev pub invariant-loop : goal.invariant-loop
invariant-loop g l =
    (0 < slice_index l.heights l.lane)
    × ((ranks : List ℕ) → AreRanks l.graph ranks → slice_index ranks l.lane + l.counter < length l.graph)
    × ((rest : List WaitArc)
    → IsFirstDown (λ place. slice_index_or l.unsure place false) l.graph l.new l.heights l.doubts l.lane rest
    → IsFirstDown (λ place. slice_index_or l.unsure place false) l.graph l.new l.heights l.doubts l.fn.first
    (l.chain.items ++ rest))
