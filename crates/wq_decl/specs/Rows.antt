-- Rows of faults: which rows of the table of refusals in docs/FORMAT.md a line breaks, in terms of its bytes and its
-- words. The first of them decides.
use Rattle.std.specs.Prelude.{◌≡◌, ◌≢◌, ◌⊎◌, ℕ, ◌<◌, ◌≤◌, List, [], ◌∷◌, length, codes, IsTrue}
use Rattle.std.specs.List.{Any}
use Rattle.wq_text.specs.Lines.{LineView}
use Rattle.wq_text.specs.Comments.{before_comment}
use Rattle.wq_text.specs.Words.{WordView, words_of}
use Rattle.wq_decl.specs.declared.fault.DeclError.{DeclError}
use Rattle.wq_decl.specs.declared.fault.DeclError.TheVariants.{BadByte, UnknownWord, MissingName, ExtraWord, BadName}
use Rattle.wq_decl.specs.Names.{is_name}
use Rattle.wq_decl.specs.Reading.{is_text_byte}

-- some byte is neither a TAB nor from 0x20 to 0x7E
abbrev pub HasBadByte : List ℕ → Type 0
HasBadByte bytes = Any (λ (b : ℕ). ¬ IsTrue (is_text_byte b)) bytes

-- the first word isn't a directive
abbrev pub IsUnknown : WordView → List WordView → Type 0
IsUnknown first others =
    (first.bytes ≢ codes "item")
    × (first.bytes ≢ codes "flush")
    × (first.bytes ≢ codes "flushwq")
    × (first.bytes ≢ codes "flush?")
    × (first.bytes ≢ codes "flushwq?")
    × (first.bytes ≢ codes "ordered")

-- the first word is one that takes exactly two names
abbrev pub TakesTwo : WordView → Type 0
TakesTwo first =
    (first.bytes ≡ codes "flushwq") ⊎ ((first.bytes ≡ codes "flush?") ⊎ (first.bytes ≡ codes "flushwq?"))

-- no word follows `item` or `ordered`, or fewer than two follow `flush`, `flushwq`, `flush?` or `flushwq?`
abbrev pub LacksName : WordView → List WordView → Type 0
LacksName first others =
    (((first.bytes ≡ codes "item") ⊎ (first.bytes ≡ codes "ordered")) × (length others < 1))
    ⊎ (((first.bytes ≡ codes "flush") ⊎ TakesTwo first) × (length others < 2))

-- more than one word follows `item`, or more than two follow `flushwq`, `flush?` or `flushwq?`
abbrev pub HasExtraWord : WordView → List WordView → Type 0
HasExtraWord first others =
    ((first.bytes ≡ codes "item") × (1 < length others))
    ⊎ (TakesTwo first × (2 < length others))

-- some word after the first isn't a name
abbrev pub HasBadName : WordView → List WordView → Type 0
HasBadName first others = Any (λ (w : WordView). ¬ IsTrue (is_name w.bytes)) others

-- there is a first word, and the relation holds for it and the words after it
abbrev pub OfWords : (WordView → List WordView → Type 0) → List WordView → Type 0
OfWords P [] = ⊥
OfWords P (first ∷ others) = P first others

-- the line breaks the row of this fault; the bytes and the words are those before its comment
abbrev pub BreaksRow : LineView → DeclError → Type 0
BreaksRow line (BadByte n) = (n ≡ line.no) × HasBadByte (before_comment line.bytes)
BreaksRow line (UnknownWord n) = (n ≡ line.no) × OfWords IsUnknown (words_of line)
BreaksRow line (MissingName n) = (n ≡ line.no) × OfWords LacksName (words_of line)
BreaksRow line (ExtraWord n) = (n ≡ line.no) × OfWords HasExtraWord (words_of line)
BreaksRow line (BadName n) = (n ≡ line.no) × OfWords HasBadName (words_of line)

-- how many rows of this pass are above the row of this fault; their order is 3, 4, 5, 12, 6
abbrev pub rows_above : DeclError → ℕ
rows_above (BadByte n) = 0
rows_above (UnknownWord n) = 1
rows_above (MissingName n) = 2
rows_above (ExtraWord n) = 3
rows_above (BadName n) = 4

-- the row of this fault is the first of the rows that the line breaks
pub record BreaksFirst (line : LineView) (e : DeclError) : Type 0 where
  pub broken : BreaksRow line e
  pub first : (other : DeclError) → BreaksRow line other → rows_above e ≤ rows_above other
