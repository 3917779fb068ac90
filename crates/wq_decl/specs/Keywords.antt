-- Keywords: which directive a line holds, by its first word.
use Rattle.std.specs.Prelude.{ℕ, if◌then◌else◌, List, [], ◌∷◌, Option, Some, None, bytes_eq, codes}
use Rattle.wq_text.specs.Words.{WordView}
use Rattle.wq_decl.specs.declared.keyword.Keyword.{Keyword}
use Rattle.wq_decl.specs.declared.keyword.Keyword.TheVariants.{Item, Flush, FlushWq, FlushUnsure, FlushWqUnsure}
use Rattle.wq_decl.specs.declared.keyword.Keyword.TheVariants.{Ordered}

-- the keyword that a word is, byte by byte
abbrev pub keyword_of : List ℕ → Option Keyword
keyword_of word =
    if bytes_eq word (codes "item") then Some Item
    else (if bytes_eq word (codes "flush") then Some Flush
    else (if bytes_eq word (codes "flushwq") then Some FlushWq
    else (if bytes_eq word (codes "flush?") then Some FlushUnsure
    else (if bytes_eq word (codes "flushwq?") then Some FlushWqUnsure
    else (if bytes_eq word (codes "ordered") then Some Ordered else None)))))

-- the words without the first, which comes as a keyword, if it is one; nothing if there are no words
abbrev pub keyword_cut : List WordView → Option (Option Keyword × List WordView)
keyword_cut [] = None
keyword_cut (first ∷ others) = Some (keyword_of first.bytes, others)
