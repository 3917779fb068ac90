-- Numbers: `0`, or a digit from 1 to 9 followed by digits; at most 4,294,967,295.
use Rattle.std.specs.Prelude.{◌≡◌, ℕ, ◌<◌, ◌^◌, List, decimal}

-- the bytes are the one decimal spelling of a 32-bit number, which has no leading zero and no sign
pub record Spells (bytes : List ℕ) (n : ℕ) : Type 0 where
  pub fits : n < 2 ^ 32
  pub digits : bytes ≡ decimal n
