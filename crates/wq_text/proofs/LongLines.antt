-- Whether some line of a text is too long, by what the text begins with.
use Rattle.std.proofs.Common.{◌≡◌, ℕ, ◌+◌, ◌<◌, ◌≤◌, Bool, true, false, eqb, ltb, ◌||◌, List, [], ◌∷◌, ◌++◌, length, get_or, take, drop, Some, refl, sym, ap, ◌∙◌, arith, is_some}
use Rattle.std.proofs.lemmas.Bool.{le-ltb, eqb-true}
use Rattle.std.proofs.lemmas.List.{get_or-take, length-take-le}
use Rattle.std.proofs.lemmas.List.Elements.{All-weaker}
use Rattle.memchr.specs.Find.{IsLastByte, is_byte}
use Rattle.wq_text.specs.Lines.{Piece, pieces, taken, line_bytes, lines_from, lines_of}
use Rattle.wq_text.specs.Limits.{first_long_line}
use Rattle.wq_text.proofs.LineLemmas.{length-line_bytes-le}
use Rattle.wq_text.proofs.PieceLemmas.{split_at_feed}
use Rattle.wq_text.proofs.LimitLaws.{IsShort, first_long_line-IsShort}
use Rattle.wq_text.proofs.SliceLaws.{LineStands, LineStands-lines_of, within-StandsAt}

-- some line has more bytes than this
abbrev pub has_long : ℕ → List ℕ → Bool
has_long m bs = is_some (first_long_line m (lines_of bs))

-- some piece makes such a long line
abbrev long_piece : ℕ → List Piece → Bool
long_piece m [] = false
long_piece m (p ∷ ps) = ltb m (length (line_bytes p)) || long_piece m ps

-- ---- numbers and places of lines don't matter

pieces-step : (m n at : ℕ) (p : Piece) (ps : List Piece) (long : Bool) → ltb m (length (line_bytes p)) ≡ long
    → is_some (first_long_line m (lines_from (n + 1) (at + taken p) ps)) ≡ long_piece m ps
    → is_some (first_long_line m (lines_from n at (p ∷ ps))) ≡ long_piece m (p ∷ ps)
pieces-step m n at p ps true e others = rw e refl
pieces-step m n at p ps false e others = rw e others

has_long-lines_from : (m n at : ℕ) (ps : List Piece) → is_some (first_long_line m (lines_from n at ps)) ≡ long_piece m ps
has_long-lines_from m n at [] = refl
has_long-lines_from m n at (p ∷ ps) = pieces-step m n at p ps (ltb m (length (line_bytes p))) refl (has_long-lines_from m (n + 1) (at + taken p) ps)

has_long-pieces : (m : ℕ) (bs : List ℕ) → has_long m bs ≡ long_piece m (pieces bs)
has_long-pieces m bs = has_long-lines_from m 1 0 (pieces bs)

-- ---- after a line that isn't too long

short_piece : (m : ℕ) (p : Piece) (ps : List Piece) → length (line_bytes p) ≤ m → long_piece m (p ∷ ps) ≡ long_piece m ps
short_piece m p ps h = rw (le-ltb m (length (line_bytes p)) h) refl

pub has_long-behind_first : (m : ℕ) (bs rest : List ℕ) (p : Piece) → pieces bs ≡ p ∷ pieces rest → length (line_bytes p) ≤ m → has_long m rest ≡ has_long m bs
has_long-behind_first m bs rest p cut short =
    has_long-pieces m rest ∙ sym (has_long-pieces m bs ∙ ap (long_piece m) cut ∙ short_piece m p (pieces rest) short)

-- ---- after a line feed that comes early enough

-- for bytes, a line feed and more: the first piece is no longer than the bytes, and what is long among the others comes after them
record IsJump (m : ℕ) (xs ys : List ℕ) : Type 0 where
  first : Piece
  others : List Piece
  cut : pieces (xs ++ (10 ∷ ys)) ≡ first ∷ others
  within : length first.bytes ≤ length xs
  same : long_piece m others ≡ long_piece m (pieces ys)

jump-step : (m x : ℕ) (xs ys : List ℕ) (feed : Bool) → eqb x 10 ≡ feed → length (x ∷ xs) ≤ m → IsJump m xs ys → IsJump m (x ∷ xs) ys
jump-step m x xs ys true e le h = record {
  first = record { bytes = []; ended = true };
  others = h.first ∷ h.others;
  cut = rw (e, h.cut) refl;
  within = omega arith;
  same = short_piece m h.first h.others (omega (arith, h.within, length-line_bytes-le h.first)) ∙ h.same;
}
jump-step m x xs ys false e le h = record {
  first = record { bytes = x ∷ h.first.bytes; ended = h.first.ended };
  others = h.others;
  cut = rw (e, h.cut) refl;
  within = omega (arith, h.within);
  same = h.same;
}

jump : (m : ℕ) (xs ys : List ℕ) → length xs ≤ m → IsJump m xs ys
jump m [] ys le = record {
  first = record { bytes = []; ended = true };
  others = pieces ys;
  cut = refl;
  within = omega arith;
  same = refl;
}
jump m (x ∷ xs) ys le = jump-step m x xs ys (eqb x 10) refl le (jump m xs ys (omega arith))

has_long-append : (m : ℕ) (xs ys : List ℕ) → length xs ≤ m → has_long m (xs ++ (10 ∷ ys)) ≡ has_long m ys
has_long-append m xs ys le =
    let h = jump m xs ys le in
    has_long-pieces m (xs ++ (10 ∷ ys)) ∙ ap (long_piece m) h.cut ∙ short_piece m h.first h.others (omega (arith, h.within, length-line_bytes-le h.first)) ∙ h.same ∙ sym (has_long-pieces m ys)

has_long-behind_feed : (m k : ℕ) (bs : List ℕ) → k ≤ m → k < length bs → get_or bs k 0 ≡ 10 → has_long m (drop (k + 1) bs) ≡ has_long m bs
has_long-behind_feed m k bs le within feed =
    sym (ap (has_long m) (split_at_feed bs k within feed) ∙ has_long-append m (take k bs) (drop (k + 1) bs) (omega (arith, length-take-le k bs (omega arith))))

-- the last line feed of as many bytes as a line may have, and one more
pub has_long-behind_last_feed : (m k : ℕ) (bs : List ℕ) → m < length bs → IsLastByte (is_byte 10) (take (m + 1) bs) (Some k) → has_long m (drop (k + 1) bs) ≡ has_long m bs
has_long-behind_last_feed m k bs more h =
    let window : length (take (m + 1) bs) ≡ m + 1 = length-take-le (m + 1) bs (omega arith) in
    let within : k < m + 1 = omega (arith, h.0.high) in
    has_long-behind_feed m k bs (omega arith) (omega arith) (sym (get_or-take (m + 1) bs k 0 within) ∙ eqb-true _ _ h.1)

-- ---- no more bytes than a line may have

pub has_long-few : (m : ℕ) (bs : List ℕ) → length bs ≤ m → has_long m bs ≡ false
has_long-few m bs few =
    ap is_some (first_long_line-IsShort m (lines_of bs)
    (All-weaker (LineStands bs) (IsShort m) (λ line s. omega (arith, within-StandsAt bs line.start line.bytes s)) (lines_of bs) (LineStands-lines_of bs)))
