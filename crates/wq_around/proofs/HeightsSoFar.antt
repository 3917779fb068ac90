-- Heights by ranks, from below: the height of the next lane.
use Rattle.std.proofs.Common.{◌≡◌, ℕ, ◌+◌, ◌<◌, List, length, map, fold, max, take, slice_index, ap, ◌∙◌, arith}
use Rattle.wq_graph.specs.declared.arc.WaitArc.{WaitArc}
use Rattle.wq_graph.specs.Graph.{IsGraph, arcs_at}
use Rattle.wq_levels.specs.Ranks.{AreRanks}
use Rattle.wq_levels.proofs.Graphs.{HasArc-below}
use Rattle.wq_levels.proofs.Ranks.{AreRanks-fall}
use Rattle.wq_fixed.specs.Fixed.{Fixed, fixed_lanes}
use Rattle.wq_around.specs.Heights.{IsHeight}
use Rattle.wq_around.specs.Down.{one_if_new}
use Rattle.wq_around.proofs.HeightLemmas.{IsHeight-step}
use Rattle.wq_around.proofs.SoFar.{AreSoFar}

module _ (graph : List (List WaitArc)) (f : Fixed) (ranks : List ℕ) (sound : IsGraph graph)
    (ranked : AreRanks graph ranks) (rank k : ℕ) (ps now : List ℕ)
    (known : AreSoFar (IsHeight graph f) ranks rank (take k ps) now) (within : slice_index ps k < length ranks)
    (at : slice_index ranks (slice_index ps k) ≡ rank) where
  pub height-found : (arcs : List WaitArc) (below one : ℕ) → arcs ≡ arcs_at graph (slice_index ps k)
      → below ≡ fold max 0 (map (λ (a : WaitArc). slice_index now a.head) arcs)
      → one ≡ one_if_new (fixed_lanes f) (slice_index ps k) → IsHeight graph f (slice_index ps k) (below + one)
  height-found arcs below one own most is =
      let v : ℕ = slice_index ps k in
      let sum : ℕ = fold max 0 (map (λ (a : WaitArc). slice_index now a.head) (arcs_at graph v)) in
      let here : below ≡ sum =
      most ∙ ap (λ (l : List WaitArc). fold max 0 (map (λ (a : WaitArc). slice_index now a.head) l)) own in
      IsHeight-step graph f now v (below + one)
      (λ w arc.
      let falls : slice_index ranks w < slice_index ranks v =
      AreRanks-fall graph ranks sound ranked v w (omega (arith, within, ranked.one_each)) arc in
      known.lower w (omega (arith, HasArc-below graph sound v w arc, ranked.one_each)) (omega (arith, falls, at)))
      (omega (arith, here, is))
