-- Names of workqueues: what the comments of an assignment text call them.
use Rattle.std.specs.Prelude.{ℕ, ◌-◌, ◌==◌, ◌&&◌, ◌||◌, nat_le, cond, Bool, List, [], length, map, filter, take}
use Rattle.std.specs.Prelude.{slice_index_or, codes}
use Rattle.std.specs.List.{before_first, list_all, suffix_len}
use Rattle.wq_text.specs.Lines.{LineView, lines_of}
use Rattle.wq_text.specs.Words.{is_blank, words_of}
use Rattle.wq_cert.specs.Forms.{begins_with}
use Rattle.wq_cert.specs.Lines.{bytes_of}
use Rattle.wq_names.specs.Comments.{comment_body}

-- the bytes without trailing blanks
abbrev pub without_end : List ℕ → List ℕ
without_end bytes = take (length bytes - suffix_len is_blank bytes) bytes

-- what a line with these bytes calls its workqueue: its comment up to the first comma
abbrev pub called : List ℕ → List ℕ
called bytes = without_end (before_first (λ b. b == 44) (comment_body bytes))

-- the most bytes that a name may have
abbrev pub max_name : ℕ
max_name = 63

-- printable ASCII
abbrev pub is_printable : ℕ → Bool
is_printable b = nat_le 32 b && nat_le b 126

-- a name: 1 to `max_name` bytes of printable ASCII
abbrev pub is_name : List ℕ → Bool
is_name bytes = nat_le 1 (length bytes) && nat_le (length bytes) max_name && list_all is_printable bytes

-- the name that a line with these bytes gives its workqueue; empty if it gives none
abbrev pub name_on : List ℕ → List ℕ
name_on bytes = cond (is_name (called bytes)) (called bytes) []

-- the line of a workqueue: its first word is `wq` or `norescuer`
abbrev pub is_workqueue_line : LineView → Bool
is_workqueue_line line =
    begins_with (codes "wq") (bytes_of (words_of line)) || begins_with (codes "norescuer") (bytes_of (words_of line))

-- the names of the workqueues in the text of an assignment, from workqueue 0 on; empty for one without a name
abbrev pub names_of : List ℕ → List (List ℕ)
names_of text = map (λ (line : LineView). name_on line.bytes) (filter is_workqueue_line (lines_of text))

-- the number of the workqueue, as its line spells it: the second word
abbrev pub spelled_number : LineView → List ℕ
spelled_number line = slice_index_or (bytes_of (words_of line)) 1 []
