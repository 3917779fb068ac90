-- Comments: what a line says after its first `#`.
use Rattle.std.specs.Prelude.{ℕ, ◌==◌, ◌||◌, Bool, List, length, drop}
use Rattle.std.specs.List.{prefix_len}
use Rattle.wq_text.specs.Comments.{before_comment}
use Rattle.wq_text.specs.Words.{is_blank}

-- a `#` or a blank: what comes before the words of a comment
abbrev pub is_lead : ℕ → Bool
is_lead b = b == 35 || is_blank b

-- the bytes from the first one that isn't a `#` or a blank
abbrev pub without_lead : List ℕ → List ℕ
without_lead bytes = drop (prefix_len is_lead bytes) bytes

-- the comment of a line with these bytes: what follows its `#`
abbrev pub comment_body : List ℕ → List ℕ
comment_body bytes = without_lead (drop (length (before_comment bytes)) bytes)
