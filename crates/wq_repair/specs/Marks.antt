-- Lists that say of each number whether something holds of it.
use Rattle.std.specs.Prelude.{◌≡◌, ◌↔◌, ℕ, ◌<◌, true, false, Bool, List, length, slice_index_or}

-- the list says so of k
abbrev pub IsMarked : List Bool → ℕ → Type 0
IsMarked marks k = slice_index_or marks k false ≡ true

-- these say of each number below n whether P holds of it
pub record Marks (P : ℕ → Type 0) (n : ℕ) (marks : List Bool) : Type 0 where
  pub one_each : length marks ≡ n
  pub exactly : (k : ℕ) → k < n → IsMarked marks k ↔ P k
