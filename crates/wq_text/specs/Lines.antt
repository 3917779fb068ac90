-- Lines: how a text is cut at its line feeds (LF, the byte 10), and that one carriage return (CR, the byte 13) before
-- a line feed isn't part of the line.
use Rattle.std.specs.Prelude.{◌≡◌, ◌≢◌, ℕ, ◌+◌, ◌==◌, if◌then◌else◌, Bool, true, false, List, [], ◌∷◌, ◌++◌, length}
use Rattle.std.specs.Prelude.{Contains, IsTrue, ◌⊎◌, ⊤, flat_map}
use Rattle.std.specs.List.{AllByRecursion}
use Rattle.std.specs.Str.Lines.{strip_carriage_return}

-- what comes before a line feed, or after the last one; `ended` says that a line feed follows it
pub record Piece : Type 0 where
  pub bytes : List ℕ
  pub ended : Bool

-- the pieces with one more byte in front; if there is no piece, the byte is a piece by itself
abbrev pub in_front : ℕ → List Piece → List Piece
in_front b [] = record { bytes = b ∷ []; ended = false } ∷ []
in_front b (p ∷ ps) = record { bytes = b ∷ p.bytes; ended = p.ended } ∷ ps

-- a text cut at its line feeds; if nothing follows the last of them, there is no piece after it
abbrev pub pieces : List ℕ → List Piece
pieces [] = []
pieces (b ∷ bs) = if b == 10 then record { bytes = []; ended = true } ∷ pieces bs else in_front b (pieces bs)

-- the bytes of a line: those of its piece, without one carriage return directly before the line feed
abbrev pub line_bytes : Piece → List ℕ
line_bytes p = if p.ended then strip_carriage_return p.bytes else p.bytes

-- a line: its number, from 1; the offset of its first byte in the text; its bytes
pub record LineView : Type 0 where
  pub no : ℕ
  pub start : ℕ
  pub bytes : List ℕ

-- how many bytes of the text a piece takes, with the line feed that ends it
abbrev pub taken : Piece → ℕ
taken p = length p.bytes + (if p.ended then 1 else 0)

-- the pieces as lines, where the first has this number and begins at this offset
abbrev pub lines_from : ℕ → ℕ → List Piece → List LineView
lines_from n at [] = []
lines_from n at (p ∷ ps) = record { no = n; start = at; bytes = line_bytes p } ∷ lines_from (n + 1) (at + taken p) ps

-- the lines of a text
abbrev pub lines_of : List ℕ → List LineView
lines_of text = lines_from 1 0 (pieces text)

-- ---- the same without recursion over the bytes

-- a piece as it is in the text
abbrev pub piece_text : Piece → List ℕ
piece_text p = p.bytes ++ (if p.ended then 10 ∷ [] else [])

-- each piece except the last has its line feed, and a last piece without one isn't empty
abbrev pub OnlyTheLastIsOpen : List Piece → Type 0
OnlyTheLastIsOpen [] = ⊤
OnlyTheLastIsOpen (p ∷ []) = IsTrue p.ended ⊎ (p.bytes ≢ [])
OnlyTheLastIsOpen (p ∷ q ∷ ps) = IsTrue p.ended × OnlyTheLastIsOpen (q ∷ ps)

-- the pieces, each with its line feed, make up the text; none holds a line feed; only the last may lack its own
pub record AreThePieces (text : List ℕ) (ps : List Piece) : Type 0 where
  pub make_the_text : flat_map piece_text ps ≡ text
  pub hold_no_feed : AllByRecursion (λ p. Contains p.bytes 10 → ⊥) ps
  pub ended : OnlyTheLastIsOpen ps
