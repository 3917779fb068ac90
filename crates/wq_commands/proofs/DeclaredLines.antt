-- Lines and words are those of the standard library.
use Rattle.std.proofs.Common.{◌≡◌, ℕ, ◌+◌, ◌≢◌, ◌⊎◌, Bool, true, false, cond, List, [], ◌∷◌, length, map, refl, sym, ap, ◌∙◌, arith, inl, inr}
use Rattle.std.specs.Prelude.{nat_lt, filter, ◌==◌, IsTrue}
use Rattle.std.specs.List.{slice_split, onto_first}
use Rattle.std.specs.Str.Lines.{lines, lines_of_parts, strip_carriage_return}
use Rattle.std.proofs.lemmas.Bool.{cond-true, lt-ltb, ne_eqb}
use Rattle.wq_text.specs.Lines.{Piece, LineView, pieces, in_front, line_bytes, lines_from, lines_of, taken, OnlyTheLastIsOpen}
use Rattle.wq_text.specs.Comments.{before_comment}
use Rattle.wq_text.specs.Words.{WordView, is_blank, begins_word, longer, words_from, words_of}
use Rattle.wq_text.proofs.PieceLaws.{AreThePieces-pieces}
use Rattle.wq_commands.specs.DeclaredIn.{words_in}

-- ---- lines

abbrev is_feed : ℕ → Bool
is_feed b = b == 10

abbrev part : List ℕ → Bool → List (List ℕ) → List (List ℕ)
part bytes true parts = bytes ∷ parts
part bytes false parts = bytes ∷ []

-- the parts between line feeds of a text in these pieces
abbrev parts_of : List Piece → List (List ℕ)
parts_of [] = [] ∷ []
parts_of (p ∷ ps) = part p.bytes p.ended (parts_of ps)

onto_first-part : (b : ℕ) (bytes : List ℕ) (ended : Bool) (parts : List (List ℕ)) → onto_first b (part bytes ended parts) ≡ part (b ∷ bytes) ended parts
onto_first-part b bytes true parts = refl
onto_first-part b bytes false parts = refl

onto_first-parts : (b : ℕ) (ps : List Piece) → onto_first b (parts_of ps) ≡ parts_of (in_front b ps)
onto_first-parts b [] = refl
onto_first-parts b (p ∷ ps) = onto_first-part b p.bytes p.ended (parts_of ps)

parts_of-pieces : (text : List ℕ) → slice_split is_feed text ≡ parts_of (pieces text)
parts_of-pieces [] = refl
parts_of-pieces (b ∷ bs) = at_feed (b == 10) (parts_of-pieces bs)
  where
    at_feed : (c : Bool) → slice_split is_feed bs ≡ parts_of (pieces bs) → cond c ([] ∷ slice_split is_feed bs) (onto_first b (slice_split is_feed bs)) ≡ parts_of (cond c (record { bytes = []; ended = true } ∷ pieces bs) (in_front b (pieces bs)))
    at_feed true rest = ap (λ (l : List (List ℕ)). [] ∷ l) rest
    at_feed false rest = ap (onto_first b) rest ∙ onto_first-parts b (pieces bs)

lines_of_parts-part : (bytes x : List ℕ) (ended : Bool) (parts : List (List ℕ)) → lines_of_parts (bytes ∷ part x ended parts) ≡ strip_carriage_return bytes ∷ lines_of_parts (part x ended parts)
lines_of_parts-part bytes x true parts = refl
lines_of_parts-part bytes x false parts = refl

lines_of_parts-more : (bytes : List ℕ) (ps : List Piece) → lines_of_parts (bytes ∷ parts_of ps) ≡ strip_carriage_return bytes ∷ lines_of_parts (parts_of ps)
lines_of_parts-more bytes [] = refl
lines_of_parts-more bytes (p ∷ ps) = lines_of_parts-part bytes p.bytes p.ended (parts_of ps)

last_line : (bytes : List ℕ) (ended : Bool) → IsTrue ended ⊎ (bytes ≢ []) → lines_of_parts (part bytes ended ([] ∷ [])) ≡ line_bytes (record { bytes = bytes; ended = ended }) ∷ []
last_line bytes true still = refl
last_line [] false still = elim still [ inl is ↦ absurd cc | inr some ↦ absurd (some refl) ]
last_line (b ∷ bs) false still = ap (λ (c : Bool). cond c [] ((b ∷ bs) ∷ [])) (ne_eqb (length (b ∷ bs)) 0 (λ e. absurd (omega (arith, e))))

more_lines : (bytes : List ℕ) (ended : Bool) (ps : List Piece) → IsTrue ended → lines_of_parts (part bytes ended (parts_of ps)) ≡ line_bytes (record { bytes = bytes; ended = ended }) ∷ lines_of_parts (parts_of ps)
more_lines bytes true ps is = lines_of_parts-more bytes ps
more_lines bytes false ps is = absurd cc

lines-parts : (ps : List Piece) → OnlyTheLastIsOpen ps → lines_of_parts (parts_of ps) ≡ map line_bytes ps
lines-parts [] still = refl
lines-parts (p ∷ []) still = last_line p.bytes p.ended still
lines-parts (p ∷ q ∷ ps) still = more_lines p.bytes p.ended (q ∷ ps) still.0 ∙ ap (λ (l : List (List ℕ)). line_bytes p ∷ l) (lines-parts (q ∷ ps) still.1)

-- the bytes of lines
abbrev pub bytes_in : List LineView → List (List ℕ)
bytes_in ls = map (λ (l : LineView). l.bytes) ls

bytes-from : (n at : ℕ) (ps : List Piece) → bytes_in (lines_from n at ps) ≡ map line_bytes ps
bytes-from n at [] = refl
bytes-from n at (p ∷ ps) = ap (λ (l : List (List ℕ)). line_bytes p ∷ l) (bytes-from (n + 1) (at + taken p) ps)

-- the lines of a text are those that the standard library gives
pub lines-bytes : (text : List ℕ) → lines text ≡ bytes_in (lines_of text)
lines-bytes text = ap lines_of_parts (parts_of-pieces text) ∙ lines-parts (pieces text) (AreThePieces-pieces text).ended ∙ sym (bytes-from 1 0 (pieces text))

-- ---- words

abbrev some_bytes : List ℕ → Bool
some_bytes word = nat_lt 0 (length word)

some_bytes-more : (b : ℕ) (bs : List ℕ) → some_bytes (b ∷ bs) ≡ true
some_bytes-more b bs = lt-ltb 0 (length (b ∷ bs)) (omega arith)

abbrev pub bytes_of : List WordView → List (List ℕ)
bytes_of ws = map (λ (w : WordView). w.bytes) ws

-- the first part, and how it begins
record IsCut (at : ℕ) (bs : List ℕ) : Type 0 where
  first : List ℕ
  rest : List (List ℕ)
  parts : slice_split is_blank bs ≡ first ∷ rest
  begins : begins_word bs ≡ some_bytes first
  words : bytes_of (words_from at bs) ≡ cond (some_bytes first) (first ∷ filter some_bytes rest) (filter some_bytes rest)

-- a byte before a word, and before none
longer-bytes : (at b : ℕ) (ws : List WordView) (first : List ℕ) (rest : List (List ℕ)) (begins : Bool) → some_bytes first ≡ begins
    → bytes_of ws ≡ cond begins (first ∷ rest) rest → bytes_of (cond begins (longer at b ws) (record { start = at; bytes = b ∷ [] } ∷ ws)) ≡ (b ∷ first) ∷ rest
longer-bytes at b [] first rest true some are = absurd cc
longer-bytes at b (w ∷ ws) first rest true some are = cc
longer-bytes at b ws [] rest false some are = ap (λ (l : List (List ℕ)). (b ∷ []) ∷ l) are
longer-bytes at b ws (x ∷ xs) rest false some are = absurd cc (sym (some_bytes-more x xs) ∙ some)

IsCut-from : (at : ℕ) (bs : List ℕ) → IsCut at bs
IsCut-from at [] = record { first = []; rest = []; parts = refl; begins = refl; words = refl }
IsCut-from at (b ∷ bs) = by_blank (is_blank b) refl (IsCut-from (at + 1) bs)
  where
    by_blank : (c : Bool) → is_blank b ≡ c → IsCut (at + 1) bs → IsCut at (b ∷ bs)
    by_blank true blank cut =
        record {
          first = [];
          rest = cut.first ∷ cut.rest;
          parts = rw blank (ap (λ (l : List (List ℕ)). [] ∷ l) cut.parts);
          begins = rw blank refl;
          words = rw blank cut.words;
        }
    by_blank false filled cut =
        record {
          first = b ∷ cut.first;
          rest = cut.rest;
          parts = rw filled (ap (onto_first b) cut.parts);
          begins = rw filled (sym (some_bytes-more b cut.first));
          words = rw filled (ap (λ (c : Bool). bytes_of (cond c (longer at b (words_from (at + 1) bs)) (record { start = at; bytes = b ∷ [] } ∷ words_from (at + 1) bs))) cut.begins
              ∙ longer-bytes at b (words_from (at + 1) bs) cut.first (filter some_bytes cut.rest) (some_bytes cut.first) refl cut.words
              ∙ sym (cond-true (some_bytes (b ∷ cut.first)) ((b ∷ cut.first) ∷ filter some_bytes cut.rest) (filter some_bytes cut.rest) (some_bytes-more b cut.first)));
        }

-- the words of a line are its parts that hold a byte
pub words_in-bytes : (l : LineView) → bytes_of (words_of l) ≡ words_in l.bytes
words_in-bytes l =
    let cut = IsCut-from l.start (before_comment l.bytes) in
    cut.words ∙ sym (ap (filter some_bytes) cut.parts)
