use Rattle.std.proofs.Common.{◌≡◌, ℕ, ◌<◌}
use Rattle.std.specs.Prelude.{slice_index}
use Rattle.wq_graph.specs.Graph.{HasArc}
use Rattle.wq_repair.proofs.checking.have_ranks.Given as goal

-- of the groups so far
abbrev pub invariant-loop-number : goal.invariant-loop-number
invariant-loop-number g l = record {
  low : (k : ℕ) → k < l.number → slice_index l.ranks k < 4096;
  same : (k : ℕ) → k < l.number → slice_index l.ranks (slice_index l.at k) ≡ slice_index l.ranks k;
  fall : (k h : ℕ) → k < l.number → HasArc l.graph k h → slice_index l.ranks h < slice_index l.ranks k;
}
