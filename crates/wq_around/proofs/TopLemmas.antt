-- The new lane of a height from which a chain leads down with the fewest unsure flushes, the first of these, so far.
use Rattle.std.proofs.Common.{◌≡◌, ℕ, ◌<◌, ◌≤◌, List, slice_index, Option}
use Rattle.std.specs.Prelude.{MatchOption}
use Rattle.wq_around.specs.Down.{IsTop}

module _ (new : ℕ) (heights : List ℕ) (most : ℕ) (doubts : List ℕ) where
  -- of the lanes below n
  pub record IsBestSoFar (n first : ℕ) : Type 0 where
    pub top : IsTop new heights most first
    pub fewest : (q : ℕ) → q < n → IsTop new heights most q → slice_index doubts first ≤ slice_index doubts q
    pub lowest : (q : ℕ) → q < n → IsTop new heights most q → slice_index doubts q ≡ slice_index doubts first
        → first ≤ q

  -- none yet, or the best so far with its number
  abbrev pub IsTopSoFar : ℕ → Option ℕ → ℕ → Type 0
  IsTopSoFar n first fewest =
      MatchOption first ((fewest ≡ 65535) × ((q : ℕ) → q < n → ¬ IsTop new heights most q))
      (λ best. (fewest ≡ slice_index doubts best) × (best < n) × IsBestSoFar n best)
