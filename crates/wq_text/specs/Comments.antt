-- Comments: what a line holds from its first `#` (the byte 35) on.
use Rattle.std.specs.Prelude.{◌≡◌, ℕ, ◌==◌, List, ◌∷◌, ◌++◌, Contains, ◌⊎◌}
use Rattle.std.specs.List.{before_first}

-- the bytes before the comment, which runs from the first `#` to the end; all of them if there is no `#`
abbrev pub before_comment : List ℕ → List ℕ
before_comment bs = before_first (λ b. b == 35) bs

-- ---- the same without std's function

-- `front` holds no `#`; it is the whole, or a `#` follows it
pub record IsBeforeComment (bs front : List ℕ) : Type 0 where
  pub holds_no_hash : Contains front 35 → ⊥
  pub whole_or_hash : (front ≡ bs) ⊎ ((rest : List ℕ) × (bs ≡ front ++ (35 ∷ rest)))
