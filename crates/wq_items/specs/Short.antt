-- Short names: their first four bytes and their last four are the whole name. A tiny name is its first byte, its middle
-- one and its last.
use Rattle.std.specs.Prelude.{ℕ, ◌+◌, ◌-◌, ◌*◌, ◌/◌, ◌^◌, ◌&&◌, nat_le, Bool, List, [], ◌∷◌, length, take, drop}
use Rattle.std.specs.Prelude.{slice_index, if◌then◌else◌}
use Rattle.std.specs.Int.{w32, from_le_bytes}
use Rattle.std.specs.Hash.{HashWrites, u64}

-- a short name has four to eight bytes
abbrev pub is_short : List ℕ → Bool
is_short name = nat_le 4 (length name) && nat_le (length name) 8

-- the last four bytes
abbrev pub last_four : List ℕ → List ℕ
last_four name = drop (length name - 4) name

-- the first four bytes and the last four as one number
abbrev pub short_number : List ℕ → ℕ
short_number name = from_le_bytes w32 (take 4 name) * 2 ^ 32 + from_le_bytes w32 (last_four name)

-- a tiny name has one to three bytes
abbrev pub is_tiny : List ℕ → Bool
is_tiny name = nat_le 1 (length name) && nat_le (length name) 3

-- the first byte, the middle one and the last as one number
abbrev pub tiny_number : List ℕ → ℕ
tiny_number name =
    slice_index name 0 * 2 ^ 16 + slice_index name (length name / 2) * 2 ^ 8 + slice_index name (length name - 1)

-- what a hasher takes of a name: the number of a short or tiny one, all bytes of a longer one
abbrev pub taken : List ℕ → HashWrites
taken name =
    if is_short name then u64 (short_number name) else if is_tiny name then u64 (tiny_number name) else name ∷ []
