-- Which words are keywords.
use Rattle.std.proofs.Common.{◌≡◌, ◌≢◌, ℕ, true, false, List, Option, Some, None}
use Rattle.std.specs.Prelude.{codes, bytes_eq}
use Rattle.std.proofs.lemmas.Bool.{both_ways, cond_both}
use Rattle.std.proofs.lemmas.Slice.Eq.{bytes_eq-Decides}
use Rattle.wq_decl.specs.declared.keyword.Keyword.{Keyword}
use Rattle.wq_decl.specs.declared.keyword.Keyword.TheVariants.{Item, Flush, FlushWq, FlushUnsure, FlushWqUnsure}
use Rattle.wq_decl.specs.declared.keyword.Keyword.TheVariants.{Ordered}
use Rattle.wq_decl.specs.Keywords.{keyword_of}

-- the word of a keyword
abbrev pub word_of : Keyword → List ℕ
word_of Item = codes "item"
word_of Flush = codes "flush"
word_of FlushWq = codes "flushwq"
word_of FlushUnsure = codes "flush?"
word_of FlushWqUnsure = codes "flushwq?"
word_of Ordered = codes "ordered"

-- the word is that of this keyword, or of none
abbrev pub IsWordOf : List ℕ → Option Keyword → Type 0
IsWordOf word None = (k : Keyword) → word ≢ word_of k
IsWordOf word (Some k) = word ≡ word_of k

same : (a b : List ℕ) → bytes_eq a b ≡ true → a ≡ b
same a b e = (bytes_eq-Decides a b).0 e

differs : (a b : List ℕ) → bytes_eq a b ≡ false → a ≢ b
differs a b e is = both_ways (bytes_eq a b) e ((bytes_eq-Decides a b).1 is)

pub IsWordOf-keyword_of : (word : List ℕ) → IsWordOf word (keyword_of word)
IsWordOf-keyword_of word =
    cond_both (bytes_eq word (codes "item")) _ _ (λ k. IsWordOf word k) (same word (codes "item")) (λ no_item.
    cond_both (bytes_eq word (codes "flush")) _ _ (λ k. IsWordOf word k) (same word (codes "flush")) (λ no_flush.
    cond_both (bytes_eq word (codes "flushwq")) _ _ (λ k. IsWordOf word k) (same word (codes "flushwq")) (λ no_flushwq.
    cond_both (bytes_eq word (codes "flush?")) _ _ (λ k. IsWordOf word k) (same word (codes "flush?")) (λ no_unsure.
    cond_both (bytes_eq word (codes "flushwq?")) _ _ (λ k. IsWordOf word k) (same word (codes "flushwq?")) (λ no_whole.
    cond_both (bytes_eq word (codes "ordered")) _ _ (λ k. IsWordOf word k) (same word (codes "ordered")) (λ no_ordered.
    none no_item no_flush no_flushwq no_unsure no_whole no_ordered))))))
  where
    none : bytes_eq word (codes "item") ≡ false → bytes_eq word (codes "flush") ≡ false
        → bytes_eq word (codes "flushwq") ≡ false → bytes_eq word (codes "flush?") ≡ false
        → bytes_eq word (codes "flushwq?") ≡ false → bytes_eq word (codes "ordered") ≡ false → IsWordOf word None
    none no_item no_flush no_flushwq no_unsure no_whole no_ordered Item = differs word (codes "item") no_item
    none no_item no_flush no_flushwq no_unsure no_whole no_ordered Flush = differs word (codes "flush") no_flush
    none no_item no_flush no_flushwq no_unsure no_whole no_ordered FlushWq = differs word (codes "flushwq") no_flushwq
    none no_item no_flush no_flushwq no_unsure no_whole no_ordered FlushUnsure = differs word (codes "flush?") no_unsure
    none no_item no_flush no_flushwq no_unsure no_whole no_ordered FlushWqUnsure =
        differs word (codes "flushwq?") no_whole
    none no_item no_flush no_flushwq no_unsure no_whole no_ordered Ordered = differs word (codes "ordered") no_ordered
