-- Refusals: what is said about a text that isn't answered.
use Rattle.std.specs.Prelude.{ℕ}

-- the number of the fault, and the line where it is, counted from 1; line 0 if no line is meant
pub record Refusal : Type 0 where
  pub code : ℕ
  pub line : ℕ
