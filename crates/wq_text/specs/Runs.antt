-- Runs: which bit of a mask is the first that is set, and bytes greater than `#`.
use Rattle.std.specs.Prelude.{◌≡◌, ℕ, ◌==◌, nat_le, if◌then◌else◌, false, List}
use Rattle.std.specs.List.{AllByRecursion}
use Rattle.std.specs.Int.{w64, trailing_zeros}

-- the place of the lowest bit that is set, or 16
abbrev pub first_set : ℕ → ℕ
first_set mask = if mask == 0 then 16 else trailing_zeros w64 mask

-- each byte is greater than `#`, so none is a blank, a `#`, a line feed or a carriage return
abbrev pub AllGreater : List ℕ → Type 0
AllGreater bs = AllByRecursion (λ b. nat_le b 35 ≡ false) bs
