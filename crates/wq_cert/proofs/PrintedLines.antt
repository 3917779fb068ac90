-- Printed lines, read back: each is a line of the text, and its words are those that were printed.
use Rattle.std.proofs.Common.{◌≡◌, ◌≢◌, ℕ, zero, suc, ◌+◌, ◌-◌, ◌*◌, ◌<◌, ◌≤◌, true, false, not, eqb, List, [], ◌∷◌, ◌++◌, length, get_or, refl, sym, ap, subst, ◌∙◌, arith, inl, append_assoc, length-append}
use Rattle.std.specs.Prelude.{flat_map}
use Rattle.std.specs.List.{All, AllByRecursion}
use Rattle.std.specs.Str.Lines.{strip_carriage_return}
use Rattle.std.proofs.lemmas.Bool.{ne_eqb}
use Rattle.std.proofs.lemmas.List.Elements.{All-nil, All-cons}
use Rattle.wq_text.specs.Comments.{before_comment}
use Rattle.wq_text.specs.Lines.{LineView, lines_from, lines_of, pieces}
use Rattle.wq_text.specs.Words.{WordView, words_from, words_of, is_blank, NoBlank, EndsAWord}
use Rattle.wq_text.proofs.CommentLemmas.{before_comment-IsBeforeComment}
use Rattle.wq_text.proofs.LimitLaws.{IsShort}
use Rattle.wq_text.proofs.LineLemmas.{length-line_bytes-le}
use Rattle.wq_text.proofs.PieceLemmas.{NoFeed, pieces-feed}
use Rattle.wq_text.proofs.WordLemmas.{words_from-filled}
use Rattle.wq_text.specs.LineText.{spaced, line_text}
use Rattle.wq_cert.specs.Lines.{bytes_of, holds_word, cert_line, cert_lines}
use Rattle.wq_cert.proofs.ListLemmas.{AllByRecursion-append, AllByRecursion-weaker}
use Rattle.wq_cert.specs.Spelled.{words_of_lines, words_of_text, KeepsLimits}
use Rattle.wq_cert.specs.Texts.{max_certificate}
use Rattle.wq_cert.proofs.TextWords.{words_of_lines-text}

-- ---- what can be printed

-- each byte is above `#` (35): it isn't a blank, a line feed, a carriage return or a `#`
abbrev pub IsPlain : List ℕ → Type 0
IsPlain bytes = AllByRecursion (λ b. 35 < b) bytes

-- a word that is read as it is printed
pub record IsPrintable (word : List ℕ) : Type 0 where
  pub filled : word ≢ []
  pub plain : IsPlain word
  pub short : length word ≤ 63

-- a line of such words
pub record IsPrintableLine (words : List (List ℕ)) : Type 0 where
  pub some : words ≢ []
  pub each : AllByRecursion IsPrintable words
  pub few : length words ≤ 8192

-- the words of a line as they are before its line feed
abbrev pub line_body : List (List ℕ) → List ℕ
line_body [] = []
line_body (word ∷ words) = word ++ flat_map spaced words

pub line_text-body : (words : List (List ℕ)) → line_text words ≡ line_body words ++ (10 ∷ [])
line_text-body [] = refl
line_text-body (word ∷ words) = sym (append_assoc word (flat_map spaced words) (10 ∷ []))

-- ---- the bytes of a line

-- a space, or a byte above `#`
abbrev IsPrinted : ℕ → Type 0
IsPrinted b = (31 < b) × (b ≢ 35)

printed_byte : (b : ℕ) → 35 < b → IsPrinted b
printed_byte b above = (omega arith, λ e. omega arith)

printed-spaced : (words : List (List ℕ)) → AllByRecursion IsPrintable words → AllByRecursion IsPrinted (flat_map spaced words)
printed-spaced [] h = tt
printed-spaced (word ∷ words) h =
    let first : AllByRecursion IsPrinted (spaced word) = ((omega arith, λ e. omega arith), AllByRecursion-weaker (λ b. 35 < b) IsPrinted printed_byte word h.0.plain) in
    AllByRecursion-append IsPrinted (spaced word) (flat_map spaced words) first (printed-spaced words h.1)

printed-body : (words : List (List ℕ)) → IsPrintableLine words → AllByRecursion IsPrinted (line_body words)
printed-body [] h = tt
printed-body (word ∷ words) h =
    let each = h.each in
    AllByRecursion-append IsPrinted word (flat_map spaced words) (AllByRecursion-weaker (λ b. 35 < b) IsPrinted printed_byte word each.0.plain) (printed-spaced words each.1)

NoFeed-printed : (bs : List ℕ) → AllByRecursion IsPrinted bs → NoFeed bs
NoFeed-printed bs h = AllByRecursion-weaker IsPrinted (λ b. eqb b 10 ≡ false) (λ b is. ne_eqb b 10 (λ e. omega (arith, is.0))) bs h

no_return : (bs : List ℕ) (k : ℕ) → AllByRecursion IsPrinted bs → get_or bs k 0 ≢ 13
no_return [] k h e = absurd (omega arith)
no_return (b ∷ bs) zero h e = absurd (omega (arith, h.0.0))
no_return (b ∷ bs) (suc k) h e = no_return bs k h.1 e

strip_carriage_return-printed : (bs : List ℕ) → AllByRecursion IsPrinted bs → strip_carriage_return bs ≡ bs
strip_carriage_return-printed bs h =
    let other : eqb (get_or bs (length bs - 1) 0) 13 ≡ false = ne_eqb _ 13 (no_return bs (length bs - 1) h) in
    rw other refl

no_hash : (bs : List ℕ) (k : ℕ) → AllByRecursion IsPrinted bs → k < length bs → get_or bs k 35 ≢ 35
no_hash [] k h lt e = absurd (omega arith)
no_hash (b ∷ bs) zero h lt e = h.0.1 e
no_hash (b ∷ bs) (suc k) h lt e = no_hash bs k h.1 (omega arith) e

before_comment-printed : (bs : List ℕ) → AllByRecursion IsPrinted bs → before_comment bs ≡ bs
before_comment-printed bs h = sym (before_comment-IsBeforeComment bs bs (record { holds_no_hash = λ c. no_hash bs c.0 h c.1 c.2; whole_or_hash = inl refl }))

-- ---- the words of a line

no_blank : (b : ℕ) → 35 < b → is_blank b ≡ false
no_blank b above =
    let space : eqb b 32 ≡ false = ne_eqb b 32 (λ e. omega arith) in
    let tab : eqb b 9 ≡ false = ne_eqb b 9 (λ e. omega arith) in
    rw (space, tab) refl

NoBlank-plain : (word : List ℕ) → IsPlain word → NoBlank word
NoBlank-plain word h = AllByRecursion-weaker (λ b. 35 < b) (λ b. is_blank b ≡ false) no_blank word h

EndsAWord-spaced : (words : List (List ℕ)) → EndsAWord (flat_map spaced words)
EndsAWord-spaced [] = refl
EndsAWord-spaced (word ∷ words) = refl

words_from-word : (at : ℕ) (word : List ℕ) (words : List (List ℕ)) → IsPrintable word
    → bytes_of (words_from at (word ++ flat_map spaced words)) ≡ word ∷ bytes_of (words_from (at + length word) (flat_map spaced words))
words_from-word at word words h = ap bytes_of (words_from-filled at word (flat_map spaced words) h.filled (NoBlank-plain word h.plain) (EndsAWord-spaced words))

words_from-spaced : (at : ℕ) (words : List (List ℕ)) → AllByRecursion IsPrintable words → bytes_of (words_from at (flat_map spaced words)) ≡ words
words_from-spaced at [] h = refl
words_from-spaced at (word ∷ words) h = words_from-word (at + 1) word words h.0 ∙ ap (λ (ws : List (List ℕ)). word ∷ ws) (words_from-spaced (at + 1 + length word) words h.1)

words_from-body : (at : ℕ) (words : List (List ℕ)) → IsPrintableLine words → bytes_of (words_from at (line_body words)) ≡ words
words_from-body at [] h = refl
words_from-body at (word ∷ words) h =
    let each = h.each in
    words_from-word at word words each.0 ∙ ap (λ (ws : List (List ℕ)). word ∷ ws) (words_from-spaced (at + length word) words each.1)

-- ---- lines

-- a printed line as a line of the text
abbrev printed_line : ℕ → ℕ → List (List ℕ) → LineView
printed_line n start words = record { no = n; start = start; bytes = strip_carriage_return (line_body words) }

bytes_of-printed_line : (n start : ℕ) (words : List (List ℕ)) → IsPrintableLine words → bytes_of (words_of (printed_line n start words)) ≡ words
bytes_of-printed_line n start words h =
    let bytes = printed-body words h in
    ap (λ (bs : List ℕ). bytes_of (words_from start (before_comment bs))) (strip_carriage_return-printed (line_body words) bytes)
    ∙ ap (λ (bs : List ℕ). bytes_of (words_from start bs)) (before_comment-printed (line_body words) bytes) ∙ words_from-body start words h

some_word : (views : List WordView) (words : List (List ℕ)) → IsPrintableLine words → bytes_of views ≡ words → not (eqb (length views) 0) ≡ true
some_word [] [] h e = absurd (h.some refl)
some_word [] (word ∷ words) h e = absurd cc
some_word (view ∷ views) words h e = ap not (ne_eqb (length (view ∷ views)) 0 (λ z. omega arith))

cert_lines-cons : (line : LineView) (lines : List LineView) → holds_word line ≡ true → cert_lines (line ∷ lines) ≡ cert_line line ∷ cert_lines lines
cert_lines-cons line lines holds = rw holds refl

pieces-line : (words : List (List ℕ)) (text : List ℕ) → IsPrintableLine words → pieces (line_text words ++ text) ≡ record { bytes = line_body words; ended = true } ∷ pieces text
pieces-line words text h =
    ap (λ (l : List ℕ). pieces (l ++ text)) (line_text-body words) ∙ ap pieces (append_assoc (line_body words) (10 ∷ []) text)
    ∙ pieces-feed (line_body words) text (NoFeed-printed (line_body words) (printed-body words h))

lines_from-printed : (n start : ℕ) (lines : List (List (List ℕ))) → AllByRecursion IsPrintableLine lines → words_of_lines (cert_lines (lines_from n start (pieces (flat_map line_text lines)))) ≡ lines
lines_from-printed n start [] h = refl
lines_from-printed n start (words ∷ lines) h =
    let text = flat_map line_text lines in
    let behind = start + (length (line_body words) + 1) in
    let line = printed_line n start words in
    let same = bytes_of-printed_line n start words h.0 in
    ap (λ ps. words_of_lines (cert_lines (lines_from n start ps))) (pieces-line words text h.0)
    ∙ ap words_of_lines (cert_lines-cons line (lines_from (n + 1) behind (pieces text)) (some_word (words_of line) words h.0 same))
    ∙ ap (λ (ws : List (List ℕ)). ws ∷ words_of_lines (cert_lines (lines_from (n + 1) behind (pieces text)))) same
    ∙ ap (λ (ls : List (List (List ℕ))). words ∷ ls) (lines_from-printed (n + 1) behind lines h.1)

-- the words of a printed text are those that were printed
pub words_of_text-printed : (lines : List (List (List ℕ))) → AllByRecursion IsPrintableLine lines → words_of_text (flat_map line_text lines) ≡ lines
words_of_text-printed lines h = sym (words_of_lines-text (flat_map line_text lines)) ∙ lines_from-printed 1 0 lines h

-- ---- limits

length-flat_map-spaced : (words : List (List ℕ)) → AllByRecursion IsPrintable words → length (flat_map spaced words) ≤ 64 * length words
length-flat_map-spaced [] h = omega arith
length-flat_map-spaced (word ∷ words) h =
    let rest : length (flat_map spaced words) ≤ 64 * length words = length-flat_map-spaced words h.1 in
    let short : length word ≤ 63 = h.0.short in
    omega (arith, length-append word (flat_map spaced words))

length-line_body-le : (words : List (List ℕ)) → AllByRecursion IsPrintable words → length (line_body words) ≤ 64 * length words
length-line_body-le [] h = omega arith
length-line_body-le (word ∷ words) h =
    let rest : length (flat_map spaced words) ≤ 64 * length words = length-flat_map-spaced words h.1 in
    let short : length word ≤ 63 = h.0.short in
    omega (arith, length-append word (flat_map spaced words))

-- a printed line has at most 524,288 bytes
length-line_body-most : (words : List (List ℕ)) → IsPrintableLine words → length (line_body words) ≤ 524288
length-line_body-most words h = omega (arith, length-line_body-le words h.each, h.few)

short-from : (n start : ℕ) (lines : List (List (List ℕ))) → AllByRecursion IsPrintableLine lines → All (IsShort 524288) (lines_from n start (pieces (flat_map line_text lines)))
short-from n start [] h = All-nil (IsShort 524288)
short-from n start (words ∷ lines) h =
    let text = flat_map line_text lines in
    let behind = start + (length (line_body words) + 1) in
    subst (λ ps. All (IsShort 524288) (lines_from n start ps)) (sym (pieces-line words text h.0)) (
    All-cons (IsShort 524288) (printed_line n start words) (lines_from (n + 1) behind (pieces text))
    (omega (arith, length-line_bytes-le (record { bytes = line_body words; ended = true }), length-line_body-most words h.0))
    (short-from (n + 1) behind lines h.1)
    )

-- the lines of a printed text are short enough
pub IsShort-printed : (lines : List (List (List ℕ))) → AllByRecursion IsPrintableLine lines → All (IsShort 524288) (lines_of (flat_map line_text lines))
IsShort-printed lines h = short-from 1 0 lines h

-- ---- texts

-- a printed text that isn't too long keeps the limits
pub KeepsLimits-printed : (lines : List (List (List ℕ))) → AllByRecursion IsPrintableLine lines → length (flat_map line_text lines) ≤ max_certificate → KeepsLimits (flat_map line_text lines)
KeepsLimits-printed lines h most = record { text_fits = most; lines_fit = IsShort-printed lines h }

-- no more lines than bytes
pub length-lines-le : (lines : List (List (List ℕ))) → length lines ≤ length (flat_map line_text lines)
length-lines-le [] = omega arith
length-lines-le (words ∷ lines) =
    let rest : length lines ≤ length (flat_map line_text lines) = length-lines-le lines in
    omega (arith, length-append (line_text words) (flat_map line_text lines), ap length (line_text-body words), length-append (line_body words) (10 ∷ []))
