-- What bytes begin with, as words.
use Rattle.std.proofs.Common.{◌≡◌, ◌≢◌, ℕ, suc, ◌+◌, ◌≤◌, Bool, true, false, cond, List, [], ◌∷◌, ◌++◌, length, take, drop, refl, sym, ap, ◌∙◌, arith, one-add, inl, inr, ◌⊎◌}
use Rattle.std.specs.List.{AllByRecursion, prefix_len}
use Rattle.wq_text.specs.Words.{WordView, words_from, is_blank, begins_word, longer, AllBlank, NoBlank, EndsAWord, IsFirstWord}

pub cons_not_nil : (x : ℕ) (xs : List ℕ) → x ∷ xs ≡ [] → ⊥
cons_not_nil x xs e = cc

pub words_from-gap : (at : ℕ) (gap rest : List ℕ) → AllBlank gap → words_from at (gap ++ rest) ≡ words_from (at + length gap) rest
words_from-gap at [] rest h = ap (λ k. words_from k rest) (omega arith)
words_from-gap at (b ∷ gap) rest h =
    let more : words_from at ((b ∷ gap) ++ rest) ≡ words_from (at + 1) (gap ++ rest) = rw h.0 refl in
    more ∙ words_from-gap (at + 1) gap rest h.1 ∙ ap (λ k. words_from k rest) (omega arith)

pub words_from-run : (at b : ℕ) (bs rest : List ℕ) → NoBlank (b ∷ bs) → EndsAWord rest
    → words_from at ((b ∷ bs) ++ rest) ≡ record { start = at; bytes = b ∷ bs } ∷ words_from (at + length (b ∷ bs)) rest
words_from-run at b [] rest h ends =
    let one : words_from at (b ∷ rest) ≡ record { start = at; bytes = b ∷ [] } ∷ words_from (at + 1) rest = rw (h.0, ends) refl in
    one
words_from-run at b (c ∷ bs) rest h ends =
    let step : words_from at ((b ∷ c ∷ bs) ++ rest) ≡ longer at b (words_from (at + 1) ((c ∷ bs) ++ rest)) = rw (h.0, h.1.0) refl in
    let w : WordView = record { start = at; bytes = b ∷ c ∷ bs } in
    step ∙ ap (longer at b) (words_from-run (at + 1) c bs rest h.1 ends) ∙ ap (λ k. w ∷ words_from k rest) (omega arith)

word_is : (at : ℕ) (w : WordView) → w.start ≡ at → record { start = at; bytes = w.bytes } ≡ w
word_is at w e = ap (λ k. record { start = k; bytes = w.bytes }) (sym e)

pub words_from-filled : (at : ℕ) (w : List ℕ) (rest : List ℕ) → w ≢ [] → NoBlank w → EndsAWord rest → words_from at (w ++ rest) ≡ record { start = at; bytes = w } ∷ words_from (at + length w) rest
words_from-filled at [] rest filled h ends = absurd (filled refl)
words_from-filled at (b ∷ bs) rest filled h ends = words_from-run at b bs rest h ends

-- the first word of some bytes is the first of their words
pub words_from-first_word : (at : ℕ) (bs : List ℕ) (w : WordView) (rest : List ℕ) → IsFirstWord at bs w rest → words_from at bs ≡ w ∷ words_from (w.start + length w.bytes) rest
words_from-first_word at bs w rest h =
    let named : record { start = at + length h.gap; bytes = w.bytes } ≡ w = word_is (at + length h.gap) w h.starts in
    ap (words_from at) h.parts ∙ words_from-gap at h.gap (w.bytes ++ rest) h.blanks ∙ words_from-filled (at + length h.gap) w.bytes rest h.filled h.unbroken h.longest
    ∙ ap (λ (v : WordView). v ∷ words_from (at + length h.gap + length w.bytes) rest) named ∙ ap (λ k. w ∷ words_from (k + length w.bytes) rest) (sym h.starts)

-- the words of nothing but blanks
pub words_from-blank : (at : ℕ) (bs : List ℕ) → AllBlank bs → words_from at bs ≡ []
words_from-blank at [] h = refl
words_from-blank at (b ∷ bs) h = let more : words_from at (b ∷ bs) ≡ words_from (at + 1) bs = rw h.0 refl in more ∙ words_from-blank (at + 1) bs h.1

-- ---- the longest prefix that passes a test

passes-step : (p : ℕ → Bool) (x : ℕ) (xs : List ℕ) (b : Bool) → p x ≡ b → AllByRecursion (λ y. p y ≡ true) (take (prefix_len p xs) xs)
    → AllByRecursion (λ y. p y ≡ true) (take (prefix_len p (x ∷ xs)) (x ∷ xs))
passes-step p x xs true e rest = rw (e, one-add) (e, rest)
passes-step p x xs false e rest = rw e tt

-- each byte of the prefix passes
pub AllByRecursion-take-prefix_len : (p : ℕ → Bool) (xs : List ℕ) → AllByRecursion (λ x. p x ≡ true) (take (prefix_len p xs) xs)
AllByRecursion-take-prefix_len p [] = tt
AllByRecursion-take-prefix_len p (x ∷ xs) = passes-step p x xs (p x) refl (AllByRecursion-take-prefix_len p xs)

-- what follows the prefix is nothing, or begins with a byte that doesn't pass
abbrev pub FailsAtOnce : (ℕ → Bool) → List ℕ → Type 0
FailsAtOnce p [] = Unit {0}
FailsAtOnce p (x ∷ xs) = p x ≡ false

fails-step : (p : ℕ → Bool) (x : ℕ) (xs : List ℕ) (b : Bool) → p x ≡ b → FailsAtOnce p (drop (prefix_len p xs) xs) → FailsAtOnce p (drop (prefix_len p (x ∷ xs)) (x ∷ xs))
fails-step p x xs true e rest = rw (e, one-add) rest
fails-step p x xs false e rest = rw e e

pub FailsAtOnce-drop-prefix_len : (p : ℕ → Bool) (xs : List ℕ) → FailsAtOnce p (drop (prefix_len p xs) xs)
FailsAtOnce-drop-prefix_len p [] = tt
FailsAtOnce-drop-prefix_len p (x ∷ xs) = fails-step p x xs (p x) refl (FailsAtOnce-drop-prefix_len p xs)

pub begins_word-from_fails : (bs : List ℕ) → FailsAtOnce is_blank bs → begins_word bs ≡ true ⊎ (bs ≡ [])
begins_word-from_fails [] h = inr refl
begins_word-from_fails (b ∷ bs) h = inl (rw h refl)

-- ---- how many words there are

length-longer-le : (at b : ℕ) (ws : List WordView) → length (longer at b ws) ≤ suc (length ws)
length-longer-le at b [] = omega arith
length-longer-le at b (w ∷ ws) = omega arith

fewer-step : (blank begins : Bool) (ws longer_ws : List WordView) (w : WordView) (n : ℕ) → length ws ≤ n → length longer_ws ≤ suc (length ws)
    → length (cond blank ws (cond begins longer_ws (w ∷ ws))) ≤ suc n
fewer-step true begins ws longer_ws w n h k = omega arith
fewer-step false true ws longer_ws w n h k = omega arith
fewer-step false false ws longer_ws w n h k = omega arith

-- no more words than bytes
pub length-words_from-le : (at : ℕ) (bs : List ℕ) → length (words_from at bs) ≤ length bs
length-words_from-le at [] = omega arith
length-words_from-le at (b ∷ bs) =
    fewer-step (is_blank b) (begins_word bs) (words_from (at + 1) bs) (longer at b (words_from (at + 1) bs)) (record { start = at; bytes = b ∷ [] }) (length bs)
    (length-words_from-le (at + 1) bs) (length-longer-le at b (words_from (at + 1) bs))
