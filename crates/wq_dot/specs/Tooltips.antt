-- Tooltips: the comment of the line that declares a flush, as the text for Graphviz has it.
use Rattle.std.specs.Prelude.{ℕ, ◌-◌, ◌==◌, ◌&&◌, nat_le, if◌then◌else◌, List, [], ◌∷◌, ◌++◌, Option, Some, None}
use Rattle.std.specs.Prelude.{length, take, replicate, flat_map, codes}
use Rattle.wq_text.specs.Lines.{LineView, lines_of}
use Rattle.wq_text.specs.Words.{WordView, words_of}
use Rattle.wq_decl.specs.declared.keyword.Keyword.{Keyword}
use Rattle.wq_decl.specs.declared.keyword.Keyword.TheVariants.{Item, Flush, FlushWq, FlushUnsure, FlushWqUnsure}
use Rattle.wq_decl.specs.declared.keyword.Keyword.TheVariants.{Ordered}
use Rattle.wq_decl.specs.Keywords.{keyword_cut}
use Rattle.wq_names.specs.Comments.{comment_body}

-- ---- comments

-- the most bytes of a comment that are shown
abbrev pub max_comment : ℕ
max_comment = 256

-- the comment of a line with these bytes, cut to `max_comment` bytes
abbrev pub comment_of : List ℕ → List ℕ
comment_of bytes = take max_comment (comment_body bytes)

-- ---- the comments of flushes

-- how many flushes a line declares that is cut after its first word: one for each name after the item's
abbrev pub flushes_cut : Option (Option Keyword × List WordView) → ℕ
flushes_cut (Some (Some Flush, names)) = length names - 1
flushes_cut (Some (Some FlushWq, names)) = length names - 1
flushes_cut (Some (Some FlushUnsure, names)) = length names - 1
flushes_cut (Some (Some FlushWqUnsure, names)) = length names - 1
flushes_cut (Some (Some Item, names)) = 0
flushes_cut (Some (Some Ordered, names)) = 0
flushes_cut (Some (None, names)) = 0
flushes_cut None = 0

-- how many flushes a line declares
abbrev pub flushes_on : LineView → ℕ
flushes_on line = flushes_cut (keyword_cut (words_of line))

-- the comments of the flushes that a line declares
abbrev pub line_comments : LineView → List (List ℕ)
line_comments line = replicate (flushes_on line) (comment_of line.bytes)

-- the comments of the flushes that a text declares, in order of place
abbrev pub comments_of : List ℕ → List (List ℕ)
comments_of text = flat_map line_comments (lines_of text)

-- ---- how they are written

-- a byte: with an escape if Graphviz would read it otherwise; a space for a TAB, and `?` for what isn't printable ASCII
abbrev pub escaped : ℕ → List ℕ
escaped b =
    if b == 34 then codes "\\\""
    else (if b == 92 then codes "\\\\"
    else (if b == 38 then codes "&amp;"
    else (if b == 9 then codes " "
    else (if nat_le 32 b && nat_le b 126 then b ∷ [] else codes "?"))))

-- a tooltip with this comment
abbrev pub tooltip_of : List ℕ → List ℕ
tooltip_of comment = codes " [edgetooltip=\"" ++ flat_map escaped comment ++ codes "\"]"

-- the tooltip of an arrow, if there is a comment
abbrev pub tooltip_text : List ℕ → List ℕ
tooltip_text comment = if length comment == 0 then [] else tooltip_of comment
