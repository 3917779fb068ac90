-- Laws of ranks of wait graphs.
use Rattle.std.proofs.Common.{◌≡◌, ℕ, ◌+◌, ◌<◌, ◌≤◌, inl, inr, List, length, slice_index, sym, ◌∙◌, ext_get_or, subst, arith}
use Rattle.std.specs.List.{All, Any}
use Rattle.std.proofs.lemmas.Bool.{cases_lt}
use Rattle.std.proofs.lemmas.List.Elements.{All-from_get_or}
use Rattle.wq_items.specs.Chain.{HasCircle}
use Rattle.wq_items.proofs.Chains.{BeginsChain-at, BeginsChain-less, BeginsChain-next, IsRank-unique, IsRank-falls, IsRank-most}
use Rattle.wq_items.proofs.Circles.{no_circle_from_ranks, circle_from_BeginsChain}
use Rattle.wq_graph.specs.declared.arc.WaitArc.{WaitArc}
use Rattle.wq_graph.specs.Graph.{IsGraph, HasArc, arcs_at}
use Rattle.wq_levels.specs.Ranks.{AreRanks}
use Rattle.wq_levels.proofs.Graphs.{HasArc-below}

module _ (graph : List (List WaitArc)) (ranks : List ℕ) where
  -- no circle has ranks
  pub AreRanks-no_circle : AreRanks graph ranks → ¬ HasCircle (HasArc graph) (length graph)
  AreRanks-no_circle are = no_circle_from_ranks (HasArc graph) (length graph) (λ v vertex. (slice_index ranks v, are.longest v vertex))

module _ (graph : List (List WaitArc)) (ranks : List ℕ) (sound : IsGraph graph) (are : AreRanks graph ranks) where
  -- a vertex ranks above each that it has an arc to
  pub AreRanks-fall : (v w : ℕ) → v < length graph → HasArc graph v w → slice_index ranks w < slice_index ranks v
  AreRanks-fall v w vertex arc =
      IsRank-falls (HasArc graph) v w (slice_index ranks v) (slice_index ranks w) arc (are.longest v vertex) (are.longest w (HasArc-below graph sound v w arc))

  -- and has an arc to one of the next lower rank, unless its own is the lowest
  pub AreRanks-next : (v r : ℕ) → v < length graph → slice_index ranks v ≡ r + 1 → Any (λ (a : WaitArc). slice_index ranks a.head ≡ r) (arcs_at graph v)
  AreRanks-next v r vertex above =
      let on = BeginsChain-next (HasArc graph) v r (BeginsChain-at (HasArc graph) v (slice_index ranks v + 1) (r + 2) (omega arith) (are.longest v vertex).0) in
      let w = on.0 in
      let arc = on.1 in
      let most : r ≤ slice_index ranks w = IsRank-most (HasArc graph) w (slice_index ranks w) r (are.longest w (HasArc-below graph sound v w arc)) on.2 in
      let less : slice_index ranks w < slice_index ranks v = AreRanks-fall v w vertex arc in
      let same : slice_index ranks w ≡ r = omega arith in
      (arc.0, arc.1, arc.2, arc.3, subst (λ u. slice_index ranks u ≡ r) (sym arc.4) same)

  -- each rank is below the number of vertices
  pub AreRanks-few : All (λ r. r < length graph) ranks
  AreRanks-few = All-from_get_or (λ r. r < length graph) ranks 0 (λ v fits.
      let vertex : v < length graph = omega (arith, are.one_each) in
      elim (cases_lt (slice_index ranks v) (length graph)) [
        | inl below ↦ below
        | inr above ↦ absurd (AreRanks-no_circle graph ranks are (circle_from_BeginsChain (HasArc graph) (length graph) v (HasArc-below graph sound) vertex
            (BeginsChain-less (HasArc graph) v (length graph + 1) (slice_index ranks v + 1) (omega arith) (omega arith) (are.longest v vertex).0)))
      ])

-- a graph's ranks are the only ones
pub AreRanks-unique : (graph : List (List WaitArc)) (one other : List ℕ) → AreRanks graph one → AreRanks graph other → one ≡ other
AreRanks-unique graph one other first second =
    ext_get_or 0 one other (first.one_each ∙ sym second.one_each) (λ v fits.
    let vertex : v < length graph = omega (arith, first.one_each) in
    IsRank-unique (HasArc graph) v (slice_index one v) (slice_index other v) (first.longest v vertex) (second.longest v vertex))
