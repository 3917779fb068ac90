-- Printed lines of workqueues with their names, read back: each is a line of the text, and has the words that were
-- printed.
use Rattle.std.proofs.Common.{◌≡◌, ◌≢◌, ℕ, zero, suc, ◌+◌, ◌-◌, ◌*◌, ◌<◌, ◌≤◌, true, false, not, eqb, List, [], ◌∷◌, ◌++◌, length, map, get_or, refl, sym, ap, subst, ◌∙◌, arith, inl, inr, append_assoc, length-append}
use Rattle.std.specs.Prelude.{flat_map}
use Rattle.std.specs.List.{All, AllByRecursion}
use Rattle.std.specs.Str.Lines.{strip_carriage_return}
use Rattle.std.proofs.lemmas.Bool.{ne_eqb}
use Rattle.std.proofs.lemmas.List.Elements.{All-nil, All-cons}
use Rattle.wq_text.specs.Comments.{before_comment}
use Rattle.wq_text.specs.Lines.{LineView, lines_from, lines_of, pieces}
use Rattle.wq_text.specs.Words.{WordView, words_from, words_of, is_blank, NoBlank, EndsAWord}
use Rattle.wq_text.proofs.CommentLemmas.{before_comment-IsBeforeComment}
use Rattle.wq_text.proofs.LimitLaws.{IsShort}
use Rattle.wq_text.proofs.LineLemmas.{length-line_bytes-le}
use Rattle.wq_text.proofs.PieceLemmas.{NoFeed, pieces-feed}
use Rattle.wq_text.proofs.WordLemmas.{words_from-filled}
use Rattle.wq_text.specs.LineText.{spaced}
use Rattle.wq_cert.specs.Lines.{bytes_of, holds_word, cert_line, cert_lines}
use Rattle.wq_cert.specs.Spelled.{words_of_lines}
use Rattle.wq_cert.proofs.ListLemmas.{AllByRecursion-append, AllByRecursion-weaker}
use Rattle.wq_cert.proofs.PrintedLines.{IsPlain, IsPrintable, IsPrintableLine, line_body}
use Rattle.wq_repair_command.specs.AssignmentText.{name_comment}

-- ---- what can be printed

-- the name of a workqueue: printable bytes, and not many
pub record IsShown (name : List ℕ) : Type 0 where
  pub above : AllByRecursion (λ b. 31 < b) name
  pub short : length name ≤ 63

-- the words of a line, and the name behind them
pub record IsNamedLine (words : List (List ℕ)) (name : List ℕ) : Type 0 where
  pub printable : IsPrintableLine words
  pub few : length words ≤ 8000
  pub shown : IsShown name

-- the bytes of a line before its line feed
abbrev pub full_body : List (List ℕ) → List ℕ → List ℕ
full_body words name = line_body words ++ name_comment name

-- ---- the bytes of a line

-- a space, or a byte above it
abbrev IsAbove : ℕ → Type 0
IsAbove b = 31 < b

plain-above : (word : List ℕ) → IsPlain word → AllByRecursion IsAbove word
plain-above word plain = AllByRecursion-weaker (λ b. 35 < b) IsAbove (λ b above. omega (arith, above)) word plain

spaced-above : (words : List (List ℕ)) → AllByRecursion IsPrintable words → AllByRecursion IsAbove (flat_map spaced words)
spaced-above [] h = tt
spaced-above (word ∷ words) h =
    AllByRecursion-append IsAbove (spaced word) (flat_map spaced words) (omega arith, plain-above word h.0.plain) (spaced-above words h.1)

body-above : (words : List (List ℕ)) → IsPrintableLine words → AllByRecursion IsAbove (line_body words)
body-above [] h = tt
body-above (word ∷ words) h = let each = h.each in AllByRecursion-append IsAbove word (flat_map spaced words) (plain-above word each.0.plain) (spaced-above words each.1)

comment-above : (name : List ℕ) → AllByRecursion IsAbove name → AllByRecursion IsAbove (name_comment name)
comment-above [] h = tt
comment-above (b ∷ name) h = (omega arith, (omega arith, (omega arith, (omega arith, h))))

pub full-above : (words : List (List ℕ)) (name : List ℕ) → IsNamedLine words name → AllByRecursion IsAbove (full_body words name)
full-above words name h = AllByRecursion-append IsAbove (line_body words) (name_comment name) (body-above words h.printable) (comment-above name h.shown.above)

NoFeed-above : (bs : List ℕ) → AllByRecursion IsAbove bs → NoFeed bs
NoFeed-above bs h = AllByRecursion-weaker IsAbove (λ b. eqb b 10 ≡ false) (λ b above. ne_eqb b 10 (λ e. omega (arith, above))) bs h

no_return : (bs : List ℕ) (k : ℕ) → AllByRecursion IsAbove bs → get_or bs k 0 ≢ 13
no_return [] k h e = absurd (omega arith)
no_return (b ∷ bs) zero h e = absurd (omega (arith, h.0))
no_return (b ∷ bs) (suc k) h e = no_return bs k h.1 e

pub strip-above : (bs : List ℕ) → AllByRecursion IsAbove bs → strip_carriage_return bs ≡ bs
strip-above bs h =
    let other : eqb (get_or bs (length bs - 1) 0) 13 ≡ false = ne_eqb _ 13 (no_return bs (length bs - 1) h) in
    rw other refl

-- ---- before the comment

-- the blanks between the words and the comment
abbrev blanks_before : List ℕ → List ℕ
blanks_before [] = []
blanks_before (b ∷ name) = 32 ∷ 32 ∷ []

-- a byte that begins no comment
abbrev IsOther : ℕ → Type 0
IsOther b = b ≢ 35

plain-other : (word : List ℕ) → IsPlain word → AllByRecursion IsOther word
plain-other word plain = AllByRecursion-weaker (λ b. 35 < b) IsOther (λ b above e. omega (arith, above)) word plain

spaced-other : (words : List (List ℕ)) → AllByRecursion IsPrintable words → AllByRecursion IsOther (flat_map spaced words)
spaced-other [] h = tt
spaced-other (word ∷ words) h =
    AllByRecursion-append IsOther (spaced word) (flat_map spaced words) ((λ e. omega arith), plain-other word h.0.plain) (spaced-other words h.1)

body-other : (words : List (List ℕ)) → IsPrintableLine words → AllByRecursion IsOther (line_body words)
body-other [] h = tt
body-other (word ∷ words) h = let each = h.each in AllByRecursion-append IsOther word (flat_map spaced words) (plain-other word each.0.plain) (spaced-other words each.1)

blanks-other : (name : List ℕ) → AllByRecursion IsOther (blanks_before name)
blanks-other [] = tt
blanks-other (b ∷ name) = ((λ e. omega arith), ((λ e. omega arith), tt))

no_hash : (bs : List ℕ) (k : ℕ) → AllByRecursion IsOther bs → k < length bs → get_or bs k 35 ≢ 35
no_hash [] k h lt e = absurd (omega arith)
no_hash (b ∷ bs) zero h lt e = h.0 e
no_hash (b ∷ bs) (suc k) h lt e = no_hash bs k h.1 (omega arith) e

pub before_comment-full : (words : List (List ℕ)) (name : List ℕ) → IsPrintableLine words → before_comment (full_body words name) ≡ line_body words ++ blanks_before name
before_comment-full words [] h =
    let bs : List ℕ = line_body words ++ [] in
    let other = AllByRecursion-append IsOther (line_body words) [] (body-other words h) tt in
    sym (before_comment-IsBeforeComment bs bs (record { holds_no_hash = λ c. no_hash bs c.0 other c.1 c.2; whole_or_hash = inl refl }))
before_comment-full words (b ∷ name) h =
    let front : List ℕ = line_body words ++ (32 ∷ 32 ∷ []) in
    let other = AllByRecursion-append IsOther (line_body words) (32 ∷ 32 ∷ []) (body-other words h) (blanks-other (b ∷ name)) in
    let parts : full_body words (b ∷ name) ≡ front ++ (35 ∷ 32 ∷ b ∷ name) = sym (append_assoc (line_body words) (32 ∷ 32 ∷ []) (35 ∷ 32 ∷ b ∷ name)) in
    sym (before_comment-IsBeforeComment (full_body words (b ∷ name)) front (record { holds_no_hash = λ c. no_hash front c.0 other c.1 c.2; whole_or_hash = inr (32 ∷ b ∷ name, parts) }))

-- ---- the words of a line

no_blank : (b : ℕ) → 35 < b → is_blank b ≡ false
no_blank b above =
    let space : eqb b 32 ≡ false = ne_eqb b 32 (λ e. omega arith) in
    let tab : eqb b 9 ≡ false = ne_eqb b 9 (λ e. omega arith) in
    rw (space, tab) refl

NoBlank-plain : (word : List ℕ) → IsPlain word → NoBlank word
NoBlank-plain word h = AllByRecursion-weaker (λ b. 35 < b) (λ b. is_blank b ≡ false) no_blank word h

EndsAWord-blanks : (name : List ℕ) → EndsAWord (blanks_before name)
EndsAWord-blanks [] = refl
EndsAWord-blanks (b ∷ name) = refl

EndsAWord-spaced : (words : List (List ℕ)) (name : List ℕ) → EndsAWord (flat_map spaced words ++ blanks_before name)
EndsAWord-spaced [] name = EndsAWord-blanks name
EndsAWord-spaced (word ∷ words) name = refl

words_from-blanks : (at : ℕ) (name : List ℕ) → bytes_of (words_from at (blanks_before name)) ≡ []
words_from-blanks at [] = refl
words_from-blanks at (b ∷ name) = refl

words_from-word : (at : ℕ) (word : List ℕ) (rest : List ℕ) → IsPrintable word → EndsAWord rest → bytes_of (words_from at (word ++ rest)) ≡ word ∷ bytes_of (words_from (at + length word) rest)
words_from-word at word rest h ends = ap bytes_of (words_from-filled at word rest h.filled (NoBlank-plain word h.plain) ends)

words_from-spaced : (at : ℕ) (words : List (List ℕ)) (name : List ℕ) → AllByRecursion IsPrintable words → bytes_of (words_from at (flat_map spaced words ++ blanks_before name)) ≡ words
words_from-spaced at [] name h = words_from-blanks at name
words_from-spaced at (word ∷ words) name h =
    let rest : List ℕ = flat_map spaced words ++ blanks_before name in
    ap (λ (bs : List ℕ). bytes_of (words_from (at + 1) bs)) (append_assoc word (flat_map spaced words) (blanks_before name))
    ∙ words_from-word (at + 1) word rest h.0 (EndsAWord-spaced words name)
    ∙ ap (λ (ws : List (List ℕ)). word ∷ ws) (words_from-spaced (at + 1 + length word) words name h.1)

words_from-body : (at : ℕ) (words : List (List ℕ)) (name : List ℕ) → IsPrintableLine words → bytes_of (words_from at (line_body words ++ blanks_before name)) ≡ words
words_from-body at [] name h = absurd (h.some refl)
words_from-body at (word ∷ words) name h =
    let each = h.each in
    let rest : List ℕ = flat_map spaced words ++ blanks_before name in
    ap (λ (bs : List ℕ). bytes_of (words_from at bs)) (append_assoc word (flat_map spaced words) (blanks_before name))
    ∙ words_from-word at word rest each.0 (EndsAWord-spaced words name)
    ∙ ap (λ (ws : List (List ℕ)). word ∷ ws) (words_from-spaced (at + length word) words name each.1)

-- ---- lines

-- a printed line as a line of the text
abbrev pub printed_line : ℕ → ℕ → List (List ℕ) → List ℕ → LineView
printed_line n start words name = record { no = n; start = start; bytes = strip_carriage_return (full_body words name) }

pub bytes_of-printed_line : (n start : ℕ) (words : List (List ℕ)) (name : List ℕ) → IsNamedLine words name → bytes_of (words_of (printed_line n start words name)) ≡ words
bytes_of-printed_line n start words name h =
    ap (λ (bs : List ℕ). bytes_of (words_from start (before_comment bs))) (strip-above (full_body words name) (full-above words name h))
    ∙ ap (λ (bs : List ℕ). bytes_of (words_from start bs)) (before_comment-full words name h.printable) ∙ words_from-body start words name h.printable

some_word : (views : List WordView) (words : List (List ℕ)) → IsPrintableLine words → bytes_of views ≡ words → not (eqb (length views) 0) ≡ true
some_word [] [] h e = absurd (h.some refl)
some_word [] (word ∷ words) h e = absurd cc
some_word (view ∷ views) words h e = ap not (ne_eqb (length (view ∷ views)) 0 (λ z. omega arith))

cert_lines-cons : (line : LineView) (lines : List LineView) → holds_word line ≡ true → cert_lines (line ∷ lines) ≡ cert_line line ∷ cert_lines lines
cert_lines-cons line lines holds = rw holds refl

-- ---- how long a line is

length-spaced : (words : List (List ℕ)) → AllByRecursion IsPrintable words → length (flat_map spaced words) ≤ 64 * length words
length-spaced [] h = omega arith
length-spaced (word ∷ words) h =
    let rest : length (flat_map spaced words) ≤ 64 * length words = length-spaced words h.1 in
    let short : length word ≤ 63 = h.0.short in
    omega (arith, length-append word (flat_map spaced words))

length-line_body : (words : List (List ℕ)) → AllByRecursion IsPrintable words → length (line_body words) ≤ 64 * length words
length-line_body [] h = omega arith
length-line_body (word ∷ words) h =
    let rest : length (flat_map spaced words) ≤ 64 * length words = length-spaced words h.1 in
    let short : length word ≤ 63 = h.0.short in
    omega (arith, length-append word (flat_map spaced words))

length-comment : (name : List ℕ) → length name ≤ 63 → length (name_comment name) ≤ 67
length-comment [] short = omega arith
length-comment (b ∷ name) short = omega (arith, short)

pub length-full_body : (words : List (List ℕ)) (name : List ℕ) → IsNamedLine words name → length (full_body words name) ≤ 64 * length words + 67
length-full_body words name h =
    omega (arith, length-append (line_body words) (name_comment name), length-line_body words h.printable.each, length-comment name h.shown.short)

length-full_body-most : (words : List (List ℕ)) (name : List ℕ) → IsNamedLine words name → length (full_body words name) ≤ 524288
length-full_body-most words name h = omega (arith, length-full_body words name h, h.few)

-- ---- texts

-- lines that have these words and these names
module _ {X : Type 0} (line : X → List ℕ) (words : X → List (List ℕ)) (name : X → List ℕ) (same : (x : X) → line x ≡ full_body (words x) (name x) ++ (10 ∷ [])) where
  abbrev IsFine : X → Type 0
  IsFine x = IsNamedLine (words x) (name x)

  pub pieces-line : (x : X) (text : List ℕ) → IsFine x → pieces (line x ++ text) ≡ record { bytes = full_body (words x) (name x); ended = true } ∷ pieces text
  pieces-line x text h =
      let body = full_body (words x) (name x) in
      ap (λ (l : List ℕ). pieces (l ++ text)) (same x) ∙ ap pieces (append_assoc body (10 ∷ []) text)
      ∙ pieces-feed body text (NoFeed-above body (full-above (words x) (name x) h))

  lines_from-printed : (n start : ℕ) (xs : List X) → AllByRecursion IsFine xs → words_of_lines (cert_lines (lines_from n start (pieces (flat_map line xs)))) ≡ map words xs
  lines_from-printed n start [] h = refl
  lines_from-printed n start (x ∷ xs) h =
      let text = flat_map line xs in
      let behind = start + (length (full_body (words x) (name x)) + 1) in
      let one = printed_line n start (words x) (name x) in
      let read = bytes_of-printed_line n start (words x) (name x) h.0 in
      ap (λ ps. words_of_lines (cert_lines (lines_from n start ps))) (pieces-line x text h.0)
      ∙ ap words_of_lines (cert_lines-cons one (lines_from (n + 1) behind (pieces text)) (some_word (words_of one) (words x) h.0.printable read))
      ∙ ap (λ (ws : List (List ℕ)). ws ∷ words_of_lines (cert_lines (lines_from (n + 1) behind (pieces text)))) read
      ∙ ap (λ (ls : List (List (List ℕ))). words x ∷ ls) (lines_from-printed (n + 1) behind xs h.1)

  -- the words that are read from a printed text are the ones that were printed
  pub words_of-printed : (xs : List X) → AllByRecursion IsFine xs → words_of_lines (cert_lines (lines_of (flat_map line xs))) ≡ map words xs
  words_of-printed xs h = lines_from-printed 1 0 xs h

  -- ---- limits

  short-from : (n start : ℕ) (xs : List X) → AllByRecursion IsFine xs → All (IsShort 524288) (lines_from n start (pieces (flat_map line xs)))
  short-from n start [] h = All-nil (IsShort 524288)
  short-from n start (x ∷ xs) h =
      let text = flat_map line xs in
      let body = full_body (words x) (name x) in
      let behind = start + (length body + 1) in
      subst (λ ps. All (IsShort 524288) (lines_from n start ps)) (sym (pieces-line x text h.0)) (
      All-cons (IsShort 524288) (printed_line n start (words x) (name x)) (lines_from (n + 1) behind (pieces text))
      (omega (arith, length-line_bytes-le (record { bytes = body; ended = true }), length-full_body-most (words x) (name x) h.0))
      (short-from (n + 1) behind xs h.1)
      )

  pub IsShort-printed : (xs : List X) → AllByRecursion IsFine xs → All (IsShort 524288) (lines_of (flat_map line xs))
  IsShort-printed xs h = short-from 1 0 xs h
