-- Arcs that lead round, if each arc itself tells which vertex it leaves.
use Rattle.std.proofs.Common.{◌≡◌, ◌≢◌, ℕ, ◌+◌, ◌-◌, ◌<◌, List, length, map, get_or, slice_index, AllPairs, Some, ext_get_or, sym, ◌∙◌, subst, ap, arith}
use Rattle.std.specs.Prelude.{slice_get}
use Rattle.std.specs.List.{All, AllAdjacentBelow}
use Rattle.std.proofs.lemmas.List.{get_or-map, length-map}
use Rattle.std.proofs.lemmas.List.Elements.{All-contains}
use Rattle.std.proofs.lemmas.Option.{get_or_from_slice_get}
use Rattle.wq_graph.specs.declared.arc.WaitArc.{WaitArc}
use Rattle.wq_graph.specs.Graph.{arcs_at}
use Rattle.wq_levels.specs.Walks.{LeadsRound}
use Rattle.wq_levels.proofs.OneCircle.{some_length}

module _ (graph : List (List WaitArc)) (circle : List WaitArc) (round : LeadsRound graph circle) where
  pub LeadsRound-some : 0 < length circle
  LeadsRound-some = some_length circle round.some

  module _ (tail : WaitArc → ℕ) (own : (v : ℕ) → All (λ (a : WaitArc). tail a ≡ v) (arcs_at graph v)) where
    tail_at : (k : ℕ) (d : WaitArc) → k < length circle → tail (get_or circle k d) ≡ slice_index round.left k
    tail_at k d fits = All-contains (λ (a : WaitArc). tail a ≡ slice_index round.left k) (arcs_at graph (slice_index round.left k)) (get_or circle k d) (own (slice_index round.left k)) (round.leaves k d fits)

    -- each arc leads to the vertex that the next one leaves
    pub LeadsRound-joined : AllAdjacentBelow (λ (a b : WaitArc). a.head ≡ tail b) circle (length circle)
    LeadsRound-joined k d fits = round.joined k d fits ∙ sym (tail_at (k + 1) d fits)

    -- and the last to the vertex that the first leaves
    pub LeadsRound-closes : (first last : WaitArc) → slice_get circle 0 ≡ Some first → slice_get circle (length circle - 1) ≡ Some last → last.head ≡ tail first
    LeadsRound-closes first last begins ends =
        ap (λ (a : WaitArc). a.head) (sym (get_or_from_slice_get circle (length circle - 1) last first ends)) ∙ round.closes first
        ∙ sym (tail_at 0 first LeadsRound-some) ∙ ap tail (get_or_from_slice_get circle 0 first first begins)

    same_left : (k : ℕ) → k < length (map tail circle) → get_or (map tail circle) k 0 ≡ get_or round.left k 0
    same_left k fits =
        let inside : k < length circle = omega (arith, length-map circle tail) in
        let d : WaitArc = record { src = 0; dst = 0; head = 0; place = 0 } in
        get_or-map tail circle k d 0 inside ∙ tail_at k d inside

    -- the vertices that the arcs leave differ
    pub LeadsRound-once : AllPairs (λ (v w : ℕ). v ≢ w) (map tail circle)
    LeadsRound-once =
        subst (λ (vs : List ℕ). AllPairs (λ (v w : ℕ). v ≢ w) vs)
        (sym (ext_get_or 0 (map tail circle) round.left (length-map circle tail ∙ sym round.one_each) same_left)) round.once
