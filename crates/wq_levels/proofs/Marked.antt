-- The vertices that were not removed, marked with the number of vertices as their rank.
use Rattle.std.proofs.Common.{◌≡◌, ℕ, ◌+◌, ◌<◌, ◌≤◌, ◌⊎◌, inl, inr, List, length, slice_index, ◌∙◌, arith}
use Rattle.std.specs.List.{Any}
use Rattle.std.proofs.lemmas.Bool.{cases_lt}
use Rattle.std.proofs.lemmas.List.{get_or_default}
use Rattle.wq_items.specs.Chain.{IsRank}
use Rattle.wq_items.proofs.Chains.{BeginsChain-at}
use Rattle.wq_graph.specs.declared.arc.WaitArc.{WaitArc}
use Rattle.wq_graph.specs.Graph.{IsGraph, HasArc}
use Rattle.wq_levels.specs.Ranks.{AreRanks}
use Rattle.wq_levels.specs.Walks.{Remains, MarkRemaining}
use Rattle.wq_levels.specs.Taking.{AreTakenOff, AreMarked}
use Rattle.wq_levels.proofs.Graphs.{HasArc-below}
use Rattle.wq_levels.proofs.Endless.{IsEndless-before, IsEndless-next}

-- those of the first i vertices are marked of which an arc remains
pub record IsMarking (remaining : List ℕ) (mark : ℕ) (old now : List ℕ) (i : ℕ) : Type 0 where
  pub one_each : length now ≡ length old
  pub marked : (v : ℕ) → v < i → v < length remaining → 0 < slice_index remaining v → slice_index now v ≡ mark
  pub kept : (v : ℕ) → (i ≤ v) ⊎ (slice_index remaining v ≡ 0) → slice_index now v ≡ slice_index old v

-- ---- ranks or marks

module _ (graph : List (List WaitArc)) (remaining ranks : List ℕ) (taken : AreTakenOff graph remaining ranks) where
  -- all are removed
  pub AreRanks-taken_off : ¬ Any (λ (r : ℕ). 0 < r) remaining → AreRanks graph ranks
  AreRanks-taken_off none = record { one_each = taken.one_rank_each; longest = λ v vertex. taken.ranked v vertex (all v vertex) } where
    all : (v : ℕ) → v < length graph → slice_index remaining v ≡ 0
    all v vertex = elim (cases_lt 0 (slice_index remaining v)) [
      | inl some ↦ (
          let each = taken.one_each in
          let inside : v < length remaining = omega (arith, vertex, each) in
          absurd (none (v, slice_index remaining v, inside, get_or_default remaining v (slice_index remaining v) 0 inside, some)))
      | inr zero_left ↦ omega (arith, zero_left)
    ]

  module _ (sound : IsGraph graph) where
    -- a vertex that has a rank doesn't remain
    ranked_goes : (v r : ℕ) → IsRank (HasArc graph) v r → ¬ Remains graph v
    ranked_goes v r rank remains =
        let on = IsEndless-next (HasArc graph) (length graph) v (HasArc-below graph sound) remains.0 remains.1 in
        rank.1 (BeginsChain-at (HasArc graph) v (r + 1 + 1) (r + 2) (omega arith) (IsEndless-before (HasArc graph) v on.0 on.1 on.2 (r + 1)))

    -- some are not, and are marked
    pub MarkRemaining-taken_off : (new : List ℕ) → AreMarked remaining (length graph) ranks new → Any (λ (r : ℕ). 0 < r) remaining → MarkRemaining graph new
    MarkRemaining-taken_off new marks found = record {
      one_each = marks.one_each ∙ taken.one_rank_each;
      marked = λ v vertex. marked v vertex (cases_lt 0 (slice_index remaining v));
      some = some;
    } where
      inside : (v : ℕ) → v < length graph → v < length remaining
      inside v vertex = let each = taken.one_each in omega (arith, vertex, each)

      none_of : (v : ℕ) → slice_index remaining v ≤ 0 → slice_index remaining v ≡ 0
      none_of v le = omega (arith, le)

      marked : (v : ℕ) → v < length graph → (0 < slice_index remaining v) ⊎ (slice_index remaining v ≤ 0) → ((slice_index new v ≡ length graph → Remains graph v) × (Remains graph v → slice_index new v ≡ length graph))
      marked v vertex (inl left) = ((λ _. taken.held v vertex left), (λ _. marks.marked v (inside v vertex) left))
      marked v vertex (inr le) =
          let none = none_of v le in
          let rank : IsRank (HasArc graph) v (slice_index ranks v) = taken.ranked v vertex none in (
            (λ top. (vertex, BeginsChain-at (HasArc graph) v (slice_index ranks v + 1) (length graph + 1) (omega (arith, top, marks.kept v none)) rank.0)),
            (λ remains. absurd (ranked_goes v (slice_index ranks v) rank remains)),
          )

      some : (v : ℕ) × (v < length new) × (slice_index new v ≡ length graph)
      some =
          let each = taken.one_each in
          let each_too = taken.one_rank_each in
          let long = marks.one_each in
          let left : 0 < slice_index remaining found.0 = omega (arith, get_or_default remaining found.0 found.1 0 found.2, found.3, found.4) in
          (found.0, omega (arith, found.2, each, each_too, long), marks.marked found.0 found.2 left)
