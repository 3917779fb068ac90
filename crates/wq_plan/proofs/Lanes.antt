-- Laws of the number of lanes.
use Rattle.std.proofs.Common.{◌≡◌, ℕ, zero, suc, ◌+◌, ◌<◌, ◌≤◌, ◌⊎◌, inl, inr, max, List, [], ◌∷◌, length, get_or, slice_index, fold, refl, arith}
use Rattle.std.specs.List.{All}
use Rattle.std.proofs.lemmas.Bool.{cases_lt}
use Rattle.wq_plan.specs.Plan.{lanes_of}

-- the count of lanes, from a count of lanes seen before
abbrev lanes_from : ℕ → List ℕ → ℕ
lanes_from start lane = fold (λ most l. max most (l + 1)) start lane

lanes_from-start : (start : ℕ) (lane : List ℕ) → start ≤ lanes_from start lane
lanes_from-start start [] = omega arith
lanes_from-start start (l ∷ lane) = let rest : max start (l + 1) ≤ lanes_from (max start (l + 1)) lane = lanes_from-start (max start (l + 1)) lane in omega arith

lanes_from-above : (start : ℕ) (lane : List ℕ) (k d : ℕ) → k < length lane → get_or lane k d < lanes_from start lane
lanes_from-above start [] k d fits = absurd (omega arith)
lanes_from-above start (l ∷ lane) zero d fits = let rest : max start (l + 1) ≤ lanes_from (max start (l + 1)) lane = lanes_from-start (max start (l + 1)) lane in omega arith
lanes_from-above start (l ∷ lane) (suc k) d fits = lanes_from-above (max start (l + 1)) lane k d (omega arith)

-- the count is the one before, or some lane's
lanes_from-some : (start : ℕ) (lane : List ℕ) → (lanes_from start lane ≡ start) ⊎ ((k : ℕ) × (k < length lane) × (get_or lane k 0 + 1 ≡ lanes_from start lane))
lanes_from-some start [] = inl refl
lanes_from-some start (l ∷ lane) = elim (lanes_from-some (max start (l + 1)) lane) [
  | inl same ↦ elim (cases_lt start (l + 1)) [
    | inl less ↦ inr (0, omega arith, omega arith)
    | inr most ↦ inl (omega arith)
  ]
  | inr later ↦ inr (suc later.0, omega arith, later.2)
]

-- each lane is below the number of lanes
pub lanes_of-above : (lane : List ℕ) → All (λ l. l < lanes_of lane) lane
lanes_of-above lane = λ k d fits. lanes_from-above 0 lane k d fits

-- if there is an item, one is on the last lane
pub lanes_of-some : (lane : List ℕ) → 0 < length lane → (k : ℕ) × (k < length lane) × (slice_index lane k + 1 ≡ lanes_of lane)
lanes_of-some lane some = elim (lanes_from-some 0 lane) [
  | inl none ↦ absurd (omega (arith, lanes_from-above 0 lane 0 0 some))
  | inr found ↦ found
]

-- there are no more lanes than a number that each is below
pub lanes_of-most : (n : ℕ) (lane : List ℕ) → All (λ l. l < n) lane → lanes_of lane ≤ n
lanes_of-most n lane below = elim (lanes_from-some 0 lane) [
  | inl none ↦ omega arith
  | inr found ↦ omega (arith, below found.0 0 found.1, found.2)
]
