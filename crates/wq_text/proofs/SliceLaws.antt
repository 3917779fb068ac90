-- Lines and words are slices of the text.
use Rattle.std.proofs.Common.{◌≡◌, ℕ, zero, suc, ◌+◌, ◌-◌, ◌<◌, ◌≤◌, Bool, true, false, cond, List, [], ◌∷◌, ◌++◌, length, get_or, take, drop, map, refl, sym, ap, ◌∙◌, arith, append_assoc, length-append}
use Rattle.std.specs.List.{All, AllPairs, flat_map, slice_range}
use Rattle.std.proofs.lemmas.Bool.{false≢true}
use Rattle.std.proofs.lemmas.List.Elements.{All-nil, All-cons, All-weaker}
use Rattle.std.proofs.lemmas.List.Kept.{AllPairs-cons}
use Rattle.std.proofs.Math.Seq.{drop-append_seam, take-append_seam}
use Rattle.wq_text.specs.Lines.{Piece, LineView, pieces, taken, line_bytes, lines_from, lines_of, piece_text, OnlyTheLastIsOpen}
use Rattle.wq_text.specs.Comments.{before_comment}
use Rattle.wq_text.specs.Words.{WordView, words_of, AreTheWords}
use Rattle.wq_text.proofs.CommentLemmas.{before_comment-front}
use Rattle.wq_text.proofs.LineLemmas.{line_bytes-front, length-line_bytes-le}
use Rattle.wq_text.proofs.PieceLaws.{AreThePieces-pieces, OnlyTheLastIsOpen-tail}
use Rattle.wq_text.proofs.WordLaws.{AreTheWords-words_from}

-- the bytes are in the text at this offset
pub record StandsAt (text : List ℕ) (start : ℕ) (bytes : List ℕ) : Type 0 where
  pub front : List ℕ
  pub behind : List ℕ
  pub parts : text ≡ front ++ (bytes ++ behind)
  pub starts : start ≡ length front

slice_range-middle : (front bytes behind : List ℕ) (start : ℕ) → start ≡ length front → slice_range (front ++ (bytes ++ behind)) start (start + length bytes) ≡ bytes
slice_range-middle front bytes behind start e =
    let len : (start + length bytes) - start ≡ length bytes = omega arith in
    ap (λ n. take n (drop start (front ++ (bytes ++ behind)))) len
    ∙ ap (λ n. take (length bytes) (drop n (front ++ (bytes ++ behind)))) e
    ∙ ap (take (length bytes)) (drop-append_seam front (bytes ++ behind))
    ∙ take-append_seam bytes behind

pub slice_range-StandsAt : (text : List ℕ) (start : ℕ) (bytes : List ℕ) → StandsAt text start bytes → slice_range text start (start + length bytes) ≡ bytes
slice_range-StandsAt text start bytes s =
    ap (λ (ys : List ℕ). slice_range ys start (start + length bytes)) s.parts ∙ slice_range-middle s.front bytes s.behind start s.starts

pub within-StandsAt : (text : List ℕ) (start : ℕ) (bytes : List ℕ) → StandsAt text start bytes → start + length bytes ≤ length text
within-StandsAt text start bytes s =
    let total : length text ≡ length s.front + (length bytes + length s.behind) = ap length s.parts ∙ simp length-append in
    omega (arith, s.starts)

-- what bytes begin with is where they are
StandsAt-front : (text : List ℕ) (start : ℕ) (bytes front rest : List ℕ) → bytes ≡ front ++ rest → StandsAt text start bytes → StandsAt text start front
StandsAt-front text start bytes front rest e s = record {
  front = s.front;
  behind = rest ++ s.behind;
  parts = s.parts ∙ ap (λ (ys : List ℕ). s.front ++ (ys ++ s.behind)) e ∙ ap (λ (ys : List ℕ). s.front ++ ys) (append_assoc front rest s.behind);
  starts = s.starts;
}

-- ---- lines

abbrev pub LineStands : List ℕ → LineView → Type 0
LineStands text line = StandsAt text line.start line.bytes

length-piece_text : (xs : List ℕ) (t : Bool) → length (piece_text (record { bytes = xs; ended = t })) ≡ taken (record { bytes = xs; ended = t })
length-piece_text xs true = length-append xs (10 ∷ [])
length-piece_text xs false = length-append xs []

LineStands-lines_from : (text front : List ℕ) (n start : ℕ) (ps : List Piece) → text ≡ front ++ flat_map piece_text ps → start ≡ length front
    → All (LineStands text) (lines_from n start ps)
LineStands-lines_from text front n start [] whole starts = All-nil (LineStands text)
LineStands-lines_from text front n start (p ∷ ps) whole starts =
    let feed : List ℕ = cond p.ended (10 ∷ []) [] in
    let others = flat_map piece_text ps in
    let end : start + taken p ≡ length (front ++ piece_text p) = omega (arith, length-append front (piece_text p), length-piece_text p.bytes p.ended) in
    let piece : StandsAt text start p.bytes =
    record { front = front; behind = feed ++ others; parts = whole ∙ ap (λ (ys : List ℕ). front ++ ys) (append_assoc p.bytes feed others); starts = starts } in
    let kept = line_bytes-front p in
    let line : StandsAt text start (line_bytes p) = StandsAt-front text start p.bytes (line_bytes p) kept.0 kept.1 piece in
    All-cons (LineStands text) (record { no = n; start = start; bytes = line_bytes p }) (lines_from (n + 1) (start + taken p) ps) line
    (LineStands-lines_from text (front ++ piece_text p) (n + 1) (start + taken p) ps (whole ∙ sym (append_assoc front (piece_text p) others)) end)

pub LineStands-lines_of : (text : List ℕ) → All (LineStands text) (lines_of text)
LineStands-lines_of text = LineStands-lines_from text [] 1 0 (pieces text) (sym (AreThePieces-pieces text).make_the_text) refl

-- the number of the line at each place
pub no-lines_from : (n start k : ℕ) (ps : List Piece) (d : LineView) → k < length (lines_from n start ps) → (get_or (lines_from n start ps) k d).no ≡ n + k
no-lines_from n start k [] d lt = absurd (omega arith)
no-lines_from n start zero (p ∷ ps) d lt = omega arith
no-lines_from n start (suc k) (p ∷ ps) d lt = no-lines_from (n + 1) (start + taken p) k ps d (omega arith) ∙ omega arith

abbrev BeginsFrom : ℕ → LineView → Type 0
BeginsFrom at line = at ≤ line.start

begin_from : (n start : ℕ) (ps : List Piece) → All (BeginsFrom start) (lines_from n start ps)
begin_from n start [] = All-nil (BeginsFrom start)
begin_from n start (p ∷ ps) =
    All-cons (BeginsFrom start) (record { no = n; start = start; bytes = line_bytes p }) (lines_from (n + 1) (start + taken p) ps) (omega arith)
    (All-weaker (BeginsFrom (start + taken p)) (BeginsFrom start) (λ line h. omega arith) (lines_from (n + 1) (start + taken p) ps) (begin_from (n + 1) (start + taken p) ps))

-- the line ends before the other begins
abbrev pub LineEndsBefore : LineView → LineView → Type 0
LineEndsBefore line next = line.start + length line.bytes < next.start

all_later : (n start : ℕ) (xs : List ℕ) (t : Bool) (ps : List Piece) → OnlyTheLastIsOpen (record { bytes = xs; ended = t } ∷ ps)
    → All (LineEndsBefore (record { no = n; start = start; bytes = line_bytes (record { bytes = xs; ended = t }) })) (lines_from (n + 1) (start + taken (record { bytes = xs; ended = t })) ps)
all_later n start xs true ps last =
    let p : Piece = record { bytes = xs; ended = true } in
    let line : LineView = record { no = n; start = start; bytes = line_bytes p } in
    let end : ℕ = start + (length xs + 1) in
    let shorter : length (line_bytes p) ≤ length xs = length-line_bytes-le p in
    All-weaker (BeginsFrom end) (LineEndsBefore line) (λ next h. omega arith) (lines_from (n + 1) end ps) (begin_from (n + 1) end ps)
all_later n start xs false [] last = All-nil (LineEndsBefore (record { no = n; start = start; bytes = xs }))
all_later n start xs false (q ∷ ps) last = absurd (false≢true last.0)

AllPairs-lines_from : (n start : ℕ) (ps : List Piece) → OnlyTheLastIsOpen ps → AllPairs LineEndsBefore (lines_from n start ps)
AllPairs-lines_from n start [] last = λ i j d lt len. absurd (omega arith)
AllPairs-lines_from n start (p ∷ ps) last =
    AllPairs-cons LineEndsBefore (record { no = n; start = start; bytes = line_bytes p }) (lines_from (n + 1) (start + taken p) ps) (all_later n start p.bytes p.ended ps last)
    (AllPairs-lines_from (n + 1) (start + taken p) ps (OnlyTheLastIsOpen-tail p ps last))

pub AllPairs-lines_of : (text : List ℕ) → AllPairs LineEndsBefore (lines_of text)
AllPairs-lines_of text = AllPairs-lines_from 1 0 (pieces text) (AreThePieces-pieces text).ended

pub map-lines_from : (n start : ℕ) (ps : List Piece) → map (λ (line : LineView). line.bytes) (lines_from n start ps) ≡ map line_bytes ps
map-lines_from n start [] = refl
map-lines_from n start (p ∷ ps) = ap (λ (ls : List (List ℕ)). line_bytes p ∷ ls) (map-lines_from (n + 1) (start + taken p) ps)

-- ---- words

abbrev pub WordStands : List ℕ → WordView → Type 0
WordStands text word = StandsAt text word.start word.bytes

regroup : (front gap word rest behind : List ℕ) → front ++ ((gap ++ (word ++ rest)) ++ behind) ≡ (front ++ gap) ++ (word ++ (rest ++ behind))
regroup front gap word rest behind = simp append_assoc

WordStands-AreTheWords : (text front bs behind : List ℕ) (at : ℕ) (ws : List WordView) → text ≡ front ++ (bs ++ behind) → at ≡ length front → AreTheWords at bs ws
    → All (WordStands text) ws
WordStands-AreTheWords text front bs behind at [] whole starts h = All-nil (WordStands text)
WordStands-AreTheWords text front bs behind at (w ∷ ws) whole starts (rest, first, more) =
    let before = front ++ first.gap in
    let parts : text ≡ before ++ (w.bytes ++ (rest ++ behind)) = whole ∙ ap (λ (ys : List ℕ). front ++ (ys ++ behind)) first.parts ∙ regroup front first.gap w.bytes rest behind in
    let begins : w.start ≡ length before = omega (arith, first.starts, length-append front first.gap) in
    let ends : w.start + length w.bytes ≡ length (before ++ w.bytes) = omega (arith, length-append before w.bytes) in
    All-cons (WordStands text) w ws (record { front = before; behind = rest ++ behind; parts = parts; starts = begins })
    (WordStands-AreTheWords text (before ++ w.bytes) rest behind (w.start + length w.bytes) ws (parts ∙ sym (append_assoc before w.bytes (rest ++ behind))) ends more)

pub WordStands-words_of : (text : List ℕ) (line : LineView) → LineStands text line → All (WordStands text) (words_of line)
WordStands-words_of text line s =
    let bs = before_comment line.bytes in
    let part = before_comment-front line.bytes in
    let content : StandsAt text line.start bs = StandsAt-front text line.start line.bytes bs part.0 part.1 s in
    WordStands-AreTheWords text content.front bs content.behind line.start (words_of line) content.parts content.starts (AreTheWords-words_from line.start bs)
