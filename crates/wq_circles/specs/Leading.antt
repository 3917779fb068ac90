-- Leading: which vertices lead where, for any relation R, where R v w says that v waits for w.
use Rattle.std.specs.Prelude.{◌≡◌, ◌≢◌, ℕ, ◌<◌, ◌≤◌, ◌⊎◌, List, [], ◌∷◌, length, slice_index}
use Rattle.wq_items.specs.Chain.{IsChain, last_of}

-- a chain of at least two vertices begins with v and ends with w
pub record Leads (R : ℕ → ℕ → Type 0) (v w : ℕ) : Type 0 where
  pub others : List ℕ
  pub some : others ≢ []
  pub chain : IsChain R (v ∷ others)
  pub ends : last_of v others ≡ w

-- v and w are together: they are the same vertex, or each leads to the other (they are strongly connected)
abbrev pub AreTogether : (ℕ → ℕ → Type 0) → ℕ → ℕ → Type 0
AreTogether R v w = (v ≡ w) ⊎ (Leads R v w × Leads R w v)

-- c is the lowest-numbered vertex of the strongly connected component of v
pub record IsLowest (R : ℕ → ℕ → Type 0) (v c : ℕ) : Type 0 where
  pub together : AreTogether R v c
  pub least : (w : ℕ) → AreTogether R v w → c ≤ w

-- for each of n vertices, the lowest-numbered one of its strongly connected component
pub record AreLowest (R : ℕ → ℕ → Type 0) (n : ℕ) (lowest : List ℕ) : Type 0 where
  pub one_each : length lowest ≡ n
  pub is : (v : ℕ) → v < n → IsLowest R v (slice_index lowest v)
