-- The greatest height of a new lane, said of lists and numbers that are the same.
use Rattle.std.proofs.Common.{◌≡◌, ℕ, ◌<◌, ◌≤◌, List, length, slice_index, subst}
use Rattle.wq_around.specs.Down.{IsTop}

module _ (new lanes most : ℕ) (sliced heights : List ℕ) (same : new ≡ lanes) (is : sliced ≡ heights) where
  pub above-of : ((q : ℕ) → new ≤ q → q < length sliced → slice_index sliced q ≤ most) → (q : ℕ) → lanes ≤ q
      → q < length heights → slice_index heights q ≤ most
  above-of each =
      subst (λ (n : ℕ). (q : ℕ) → n ≤ q → q < length heights → slice_index heights q ≤ most) same
      (subst (λ (l : List ℕ). (q : ℕ) → new ≤ q → q < length l → slice_index l q ≤ most) is each)

  pub top-of : (0 < most → (q : ℕ) × IsTop new sliced most q) → 0 < most → (q : ℕ) × IsTop lanes heights most q
  top-of found =
      subst (λ (n : ℕ). 0 < most → (q : ℕ) × IsTop n heights most q) same
      (subst (λ (l : List ℕ). 0 < most → (q : ℕ) × IsTop new l most q) is found)
