-- Names: what an item may be called.
use Rattle.std.specs.Prelude.{ℕ, ◌==◌, ◌||◌, ◌&&◌, Bool, nat_le, List, length}
use Rattle.std.specs.List.{list_all}
use Rattle.std.specs.Char.{is_ascii_alphanumeric}
use Rattle.wq_text.specs.Words.{WordView}

-- an ASCII letter, a digit, `_`, `-` or `.`
abbrev pub is_name_byte : ℕ → Bool
is_name_byte b = is_ascii_alphanumeric b || (b == 95 || (b == 45 || b == 46))

-- how many bytes a name may have
abbrev pub max_name : ℕ
max_name = 63

-- 1 to `max_name` bytes that a name may have
abbrev pub is_name : List ℕ → Bool
is_name bytes = nat_le 1 (length bytes) && (nat_le (length bytes) max_name && list_all is_name_byte bytes)

-- each word is a name
abbrev pub are_names : List WordView → Bool
are_names words = list_all (λ (w : WordView). is_name w.bytes) words
