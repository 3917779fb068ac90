-- Words: the longest runs of bytes other than space and TAB before a line's comment.
use Rattle.std.specs.Prelude.{◌≡◌, ◌≢◌, ℕ, ◌+◌, ◌==◌, ◌||◌, not, if◌then◌else◌, Bool, true, false, List, [], ◌∷◌, ◌++◌}
use Rattle.std.specs.Prelude.{length, ⊤}
use Rattle.std.specs.List.{AllByRecursion}
use Rattle.wq_text.specs.Lines.{LineView}
use Rattle.wq_text.specs.Comments.{before_comment}

-- a space or a TAB
abbrev pub is_blank : ℕ → Bool
is_blank b = b == 32 || b == 9

-- any other byte: one that is part of a word
abbrev pub is_filled : ℕ → Bool
is_filled b = not (is_blank b)

-- a word: the offset of its first byte in the text, and its bytes
pub record WordView : Type 0 where
  pub start : ℕ
  pub bytes : List ℕ

-- the bytes begin with one that isn't a blank
abbrev pub begins_word : List ℕ → Bool
begins_word [] = false
begins_word (b ∷ bs) = is_filled b

-- the words with one more byte before the first word, which then begins at this offset
abbrev pub longer : ℕ → ℕ → List WordView → List WordView
longer at b [] = record { start = at; bytes = b ∷ [] } ∷ []
longer at b (w ∷ ws) = record { start = at; bytes = b ∷ w.bytes } ∷ ws

-- the words of bytes, the first of which is at this offset: a blank separates words; any other byte is put in front of
-- the word right after it, or is a word by itself if none begins there
abbrev pub words_from : ℕ → List ℕ → List WordView
words_from at [] = []
words_from at (b ∷ bs) =
    let ws = words_from (at + 1) bs in
    if is_blank b then ws else (if begins_word bs then longer at b ws else record { start = at; bytes = b ∷ [] } ∷ ws)

-- the words of a line: those of the bytes before its comment
abbrev pub words_of : LineView → List WordView
words_of line = words_from line.start (before_comment line.bytes)

-- ---- how words are cut from bytes with a comment

-- the byte ends a word: it is a blank, or the `#` that begins a comment
abbrev pub ends_word : ℕ → Bool
ends_word b = is_blank b || b == 35

-- the byte may be in a word before a comment
abbrev pub in_word : ℕ → Bool
in_word b = not (ends_word b)

-- each byte may be in a word before a comment
abbrev pub AllInWord : List ℕ → Type 0
AllInWord bs = AllByRecursion (λ b. in_word b ≡ true) bs

-- the bytes are empty, or begin with a byte that ends a word
abbrev pub EndsAtOnce : List ℕ → Type 0
EndsAtOnce [] = ⊤
EndsAtOnce (b ∷ bs) = in_word b ≡ false

-- ---- lines that begin with a word that is known

-- the first of the lines holds `keyword` at its beginning and then these words, and the others are left
pub record BeginsWithWords (keyword : List ℕ) (others : List WordView) (lines left : List LineView) : Type 0 where
  pub line : LineView
  pub first : lines ≡ line ∷ left
  pub holds : words_of line ≡ record { start = line.start; bytes = keyword } ∷ others

-- ---- the same without recursion over the bytes

-- each byte is a blank
abbrev pub AllBlank : List ℕ → Type 0
AllBlank bs = AllByRecursion (λ b. is_blank b ≡ true) bs

-- no byte is a blank
abbrev pub NoBlank : List ℕ → Type 0
NoBlank bs = AllByRecursion (λ b. is_blank b ≡ false) bs

-- what comes after a word: nothing, or bytes that begin with a blank
abbrev pub EndsAWord : List ℕ → Type 0
EndsAWord rest = begins_word rest ≡ false

-- a gap of blanks, a word at its offset, and the rest, which is empty or begins with a blank
pub record IsFirstWord (at : ℕ) (bs : List ℕ) (w : WordView) (rest : List ℕ) : Type 0 where
  pub gap : List ℕ
  pub blanks : AllBlank gap
  pub parts : bs ≡ gap ++ (w.bytes ++ rest)
  pub starts : w.start ≡ at + length gap
  pub filled : w.bytes ≢ []
  pub unbroken : NoBlank w.bytes
  pub longest : EndsAWord rest

-- the words, one after the other, with only blanks between them and around them
abbrev pub AreTheWords : ℕ → List ℕ → List WordView → Type 0
AreTheWords at bs [] = AllBlank bs
AreTheWords at bs (w ∷ ws) = (rest : List ℕ) × IsFirstWord at bs w rest × AreTheWords (w.start + length w.bytes) rest ws
