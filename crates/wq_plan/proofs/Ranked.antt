-- Laws of lanes that are ranks, for any relation R, where R v w says that v waits for w.
use Rattle.std.proofs.Common.{◌≡◌, ℕ, ◌+◌, ◌<◌, ◌≤◌, inl, inr, List, [], ◌∷◌, length, slice_index, refl, arith}
use Rattle.std.specs.List.{All}
use Rattle.std.proofs.lemmas.Bool.{cases_lt}
use Rattle.std.proofs.lemmas.List.{get_or_past}
use Rattle.std.proofs.lemmas.List.Elements.{All-head}
use Rattle.wq_items.specs.Chain.{IsChain, IsRank}
use Rattle.wq_items.proofs.Chains.{BeginsChain-one, BeginsChain-more, IsRank-falls, IsRank-most, IsRank-greatest}
use Rattle.wq_plan.specs.Plan.{lanes_of}
use Rattle.wq_plan.proofs.Lanes.{lanes_of-above}

module _ (R : ℕ → ℕ → Type 0) (n : ℕ) (lane : List ℕ) (one_each : length lane ≡ n) (ranks : (v : ℕ) → v < n → IsRank R v (slice_index lane v)) where
  -- a vertex's lane is above that of each vertex that it waits for
  pub ranks-fall : (v w : ℕ) → v < n → R v w → slice_index lane w < slice_index lane v
  ranks-fall v w vertex waits = elim (cases_lt w n) [
    | inl other ↦ IsRank-falls R v w (slice_index lane v) (slice_index lane w) waits (ranks v vertex) (ranks w other)
    | inr past ↦
        let lowest : slice_index lane w ≡ 0 = get_or_past lane w 0 (omega arith) in
        let most : 1 ≤ slice_index lane v = IsRank-most R v (slice_index lane v) 1 (ranks v vertex) (BeginsChain-more R v w 1 waits (BeginsChain-one R w)) in
        omega arith
  ]

  -- no chain has more vertices than there are lanes
  pub ranks-most : (vs : List ℕ) → IsChain R vs → All (λ v. v < n) vs → length vs ≤ lanes_of lane
  ranks-most [] chain below = omega arith
  ranks-most (v ∷ vs) chain below =
      let vertex : v < n = All-head (λ w. w < n) v vs below in
      let most : length (v ∷ vs) ≤ slice_index lane v + 1 = IsRank-greatest R v (slice_index lane v) (length (v ∷ vs)) (ranks v vertex) (vs, chain, refl) in
      omega (arith, most, lanes_of-above lane v 0 (omega arith))
