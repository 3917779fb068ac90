-- Chains and circles of numbers, for any relation: R v w says that v waits for w.
use Rattle.std.specs.Prelude.{◌≡◌, ℕ, ◌+◌, ◌<◌, List, [], ◌∷◌, length, slice_index, ⊤}
use Rattle.std.specs.List.{All}

-- each vertex waits for the next; a vertex may occur twice
abbrev pub IsChain : (ℕ → ℕ → Type 0) → List ℕ → Type 0
IsChain R [] = ⊤
IsChain R (v ∷ []) = ⊤
IsChain R (v ∷ w ∷ vs) = R v w × IsChain R (w ∷ vs)

-- the last of v ∷ vs
abbrev pub last_of : ℕ → List ℕ → ℕ
last_of v [] = v
last_of v (w ∷ vs) = last_of w vs

-- a chain whose last vertex waits for its first
pub record Circle (R : ℕ → ℕ → Type 0) : Type 0 where
  pub first : ℕ
  pub others : List ℕ
  pub chain : IsChain R (first ∷ others)
  pub closes : R (last_of first others) first

-- a circle whose vertices are all below n
abbrev pub HasCircle : (ℕ → ℕ → Type 0) → ℕ → Type 0
HasCircle R n = (c : Circle R) × All (λ v. v < n) (c.first ∷ c.others)

-- a chain of n vertices begins at v
abbrev pub BeginsChain : (ℕ → ℕ → Type 0) → ℕ → ℕ → Type 0
BeginsChain R v n = (others : List ℕ) × IsChain R (v ∷ others) × (length (v ∷ others) ≡ n)

-- a chain of r + 1 vertices begins at v, and none of r + 2
abbrev pub IsRank : (ℕ → ℕ → Type 0) → ℕ → ℕ → Type 0
IsRank R v r = BeginsChain R v (r + 1) × (¬ BeginsChain R v (r + 2))

-- some number is at two places
abbrev pub Repeats : List ℕ → Type 0
Repeats xs = (i j : ℕ) × (i < j) × (j < length xs) × (slice_index xs i ≡ slice_index xs j)
