-- Words before a comment, as they are cut one after the other.
use Rattle.std.proofs.Common.{◌≡◌, ◌≢◌, ℕ, ◌+◌, ◌-◌, ◌<◌, ◌≤◌, Bool, true, false, eqb, not, ◌||◌, List, [], ◌∷◌, ◌++◌, length, get_or, take, drop, refl, sym, ap, subst, ◌∙◌, arith, append-nil, append_assoc, one-add, inl, inr, ◌⊎◌}
use Rattle.std.specs.List.{prefix_len}
use Rattle.std.proofs.lemmas.Bool.{or_parts}
use Rattle.std.proofs.lemmas.Bool.Decides.{nat_tests}
use Rattle.std.proofs.lemmas.List.{get_or-take, length-take-le, length-append, take-append-drop, drop_at, drop-take, take_rest}
use lib.Seq.{take-append_seam, drop-append_seam}
use Rattle.std.proofs.lemmas.List.Sums.{prefix_len_is}
use Rattle.wq_text.specs.Comments.{before_comment}
use Rattle.wq_text.specs.Words.{words_from, is_blank, begins_word, in_word, AllBlank, NoBlank, EndsAWord, AllInWord, EndsAtOnce}
use Rattle.wq_text.proofs.WordLemmas.{FailsAtOnce, words_from-blank, words_from-first_word}

-- ---- how many of the first bytes of a text stand before the first that ends a word

module _ (text : List ℕ) (left : ℕ) (within : left ≤ length text) where
  long : length (take left text) ≡ left
  long = length-take-le left text within

  at : (n : ℕ) → n ≤ left → ((k : ℕ) → k < n → in_word (get_or text k 0) ≡ true) → (k : ℕ) → k < n → in_word (get_or (take left text) k 0) ≡ true
  at n le before k lt = ap in_word (get_or-take left text k 0 (omega arith)) ∙ before k lt

  -- all of them may stand in a word
  pub prefix_len-all : (n : ℕ) → left ≤ n → ((k : ℕ) → k < n → in_word (get_or text k 0) ≡ true) → left ≡ prefix_len in_word (take left text)
  prefix_len-all n le before =
      sym (prefix_len_is in_word (take left text) left 0 (omega (arith, long)) (at left (omega arith) (λ k lt. before k (omega arith))) (λ lt. absurd (omega (arith, long))))

  -- one of them ends the word
  pub prefix_len-at_end : (n : ℕ) → n < left → ((k : ℕ) → k < n → in_word (get_or text k 0) ≡ true) → in_word (get_or text n 0) ≡ false → n ≡ prefix_len in_word (take left text)
  prefix_len-at_end n lt before stops =
      sym (prefix_len_is in_word (take left text) n 0 (omega (arith, long)) (at n (omega arith) before) (λ _. ap in_word (get_or-take left text n 0 lt) ∙ stops))

-- what is left of the first bytes of a text behind some of them is a front of the text behind these
pub rest_of : (n : ℕ) (text front rest : List ℕ) → take n text ≡ front ++ rest → n ≤ length text
    → rest ≡ take (length rest) (take (length text - length front) (drop (length front) text))
rest_of n text front rest cut within =
    let sizes : n ≡ length front + length rest = sym (length-take-le n text within) ∙ ap length cut ∙ length-append front rest in
    sym (drop_at front rest (length front) refl) ∙ ap (drop (length front)) (sym cut) ∙ ap (λ (k : ℕ). drop (length front) (take k text)) sizes ∙ drop-take (length front) (length rest) text
    ∙ ap (take (length rest)) (sym (take_rest text (length front)))

pub EndsAtOnce-from_fails : (bs : List ℕ) → FailsAtOnce in_word bs → EndsAtOnce bs
EndsAtOnce-from_fails [] h = tt
EndsAtOnce-from_fails (b ∷ bs) h = h

-- ---- bytes before a comment

not_true : (b : Bool) → not b ≡ true → b ≡ false
not_true true h = absurd cc
not_true false h = refl

not_false : (b : Bool) → not b ≡ false → b ≡ true
not_false true h = refl
not_false false h = absurd cc

-- a byte that isn't the first of a comment
before_comment-more : (b : ℕ) (bs : List ℕ) → eqb b 35 ≡ false → before_comment (b ∷ bs) ≡ b ∷ before_comment bs
before_comment-more b bs e = rw (e, one-add) refl

before_comment-stop : (b : ℕ) (bs : List ℕ) → eqb b 35 ≡ true → before_comment (b ∷ bs) ≡ []
before_comment-stop b bs e = rw e refl

blank_no_hash : (b : ℕ) → is_blank b ≡ true → eqb b 35 ≡ false
blank_no_hash b h = grind (arith, nat_tests)

before_comment-gap : (gap rest : List ℕ) → AllBlank gap → before_comment (gap ++ rest) ≡ gap ++ before_comment rest
before_comment-gap [] rest h = refl
before_comment-gap (b ∷ gap) rest h = before_comment-more b (gap ++ rest) (blank_no_hash b h.0) ∙ ap (λ (l : List ℕ). b ∷ l) (before_comment-gap gap rest h.1)

before_comment-word : (word rest : List ℕ) → AllInWord word → before_comment (word ++ rest) ≡ word ++ before_comment rest
before_comment-word [] rest h = refl
before_comment-word (b ∷ word) rest h =
    let parts = or_parts (is_blank b) (eqb b 35) (not_true _ h.0) in
    before_comment-more b (word ++ rest) parts.1 ∙ ap (λ (l : List ℕ). b ∷ l) (before_comment-word word rest h.1)

NoBlank-in_word : (word : List ℕ) → AllInWord word → NoBlank word
NoBlank-in_word [] h = tt
NoBlank-in_word (b ∷ word) h = ((or_parts (is_blank b) (eqb b 35) (not_true _ h.0)).0, NoBlank-in_word word h.1)

-- what follows a word, before the comment
ends_by : (b : ℕ) (bs : List ℕ) (blank hash : Bool) → is_blank b ≡ blank → eqb b 35 ≡ hash → (blank || hash) ≡ true → EndsAWord (before_comment (b ∷ bs))
ends_by b bs blank true p q h = rw (before_comment-stop b bs q) refl
ends_by b bs true false p q h = rw (before_comment-more b bs q, p) refl
ends_by b bs false false p q h = absurd cc

EndsAWord-before_comment : (rest : List ℕ) → EndsAtOnce rest → EndsAWord (before_comment rest)
EndsAWord-before_comment [] h = refl
EndsAWord-before_comment (b ∷ bs) h = ends_by b bs (is_blank b) (eqb b 35) refl refl (not_false _ h)

-- ---- a word, or none

-- blanks, and then a comment or the end
nothing_left : (rest : List ℕ) → begins_word rest ≡ true ⊎ (rest ≡ []) → EndsAtOnce rest → before_comment rest ≡ []
nothing_left [] h ends = refl
nothing_left (b ∷ bs) (inl filled) ends = before_comment-stop b bs (hash (is_blank b) (eqb b 35) filled (not_false _ ends))
  where
    hash : (x y : Bool) → not x ≡ true → (x || y) ≡ true → y ≡ true
    hash true y p q = absurd cc
    hash false y p q = q
nothing_left (b ∷ bs) (inr e) ends = absurd cc

pub words_from-none : (at : ℕ) (bs gap rest word after : List ℕ) → bs ≡ gap ++ rest → AllBlank gap → begins_word rest ≡ true ⊎ (rest ≡ []) → rest ≡ word ++ after → EndsAtOnce after → length word ≡ 0
    → words_from at (before_comment bs) ≡ []
words_from-none at bs gap rest [] after whole blank begins cut ends none =
    let left : before_comment rest ≡ [] = nothing_left rest begins (subst EndsAtOnce (sym cut) ends) in
    ap (λ (l : List ℕ). words_from at (before_comment l)) whole ∙ ap (words_from at) (before_comment-gap gap rest blank ∙ ap (λ (l : List ℕ). gap ++ l) left ∙ append-nil gap) ∙ words_from-blank at gap blank
words_from-none at bs gap rest (b ∷ word) after whole blank begins cut ends none = absurd (omega arith)

nonempty : (word : List ℕ) → 0 < length word → word ≢ []
nonempty word some e = absurd (omega (arith, ap length e))

-- blanks, a word, and the rest after it
pub words_from-cut : (at : ℕ) (bs gap rest word after : List ℕ) → bs ≡ gap ++ rest → AllBlank gap → rest ≡ word ++ after → AllInWord word → EndsAtOnce after → 0 < length word
    → words_from at (before_comment bs) ≡ record { start = at + length gap; bytes = word } ∷ words_from (at + length gap + length word) (before_comment after)
words_from-cut at bs gap rest word after whole blank cut inside ends some =
    words_from-first_word at (before_comment bs) (record { start = at + length gap; bytes = word }) (before_comment after) (record {
      gap = gap;
      blanks = blank;
      parts = ap (λ (l : List ℕ). before_comment l) whole ∙ before_comment-gap gap rest blank ∙ ap (λ (l : List ℕ). gap ++ before_comment l) cut ∙ ap (λ (l : List ℕ). gap ++ l) (before_comment-word word after inside);
      starts = refl;
      filled = nonempty word some;
      unbroken = NoBlank-in_word word inside;
      longest = EndsAWord-before_comment after ends;
    })

-- what is left of the first bytes of a text after a word and one byte
pub rest_after : (n : ℕ) (text word : List ℕ) (b : ℕ) (rest : List ℕ) → take n text ≡ word ++ (b ∷ rest) → n ≤ length text
    → rest ≡ take (length rest) (take (length text - (length word + 1)) (drop (length word + 1) text))
rest_after n text word b rest cut within =
    subst (λ (k : ℕ). rest ≡ take (length rest) (take (length text - k) (drop k text))) (length-append word (b ∷ []))
    (rest_of n text (word ++ (b ∷ [])) rest (cut ∙ sym (append_assoc word (b ∷ []) rest)) within)

-- a word at the front, a space, and the rest
pub words_from-space : (at : ℕ) (word rest : List ℕ) → AllInWord word → 0 < length word
    → words_from at (before_comment (word ++ (32 ∷ rest))) ≡ record { start = at; bytes = word } ∷ words_from (at + (length word + 1)) (before_comment rest)
words_from-space at word rest inside some =
    let bs = word ++ (32 ∷ rest) in
    words_from-cut at bs [] bs word (32 ∷ rest) refl tt refl inside refl some
    ∙ ap (λ (n : ℕ). record { start = n; bytes = word } ∷ words_from (n + length word) (before_comment (32 ∷ rest))) {x = at + 0} {y = at} (omega arith)
    ∙ ap (λ (l : List ℕ). record { start = at; bytes = word } ∷ words_from (at + length word) l) (before_comment-more 32 rest refl)
    ∙ ap (λ (n : ℕ). record { start = at; bytes = word } ∷ words_from n (before_comment rest)) {x = at + length word + 1} {y = at + (length word + 1)} (omega arith)

-- bytes that begin with a word and one byte
pub starts_with-rest : (bytes word : List ℕ) (b : ℕ) → take (length word + 1) bytes ≡ word ++ (b ∷ []) → bytes ≡ word ++ (b ∷ drop (length word + 1) bytes)
starts_with-rest bytes word b first =
    let rest = drop (length word + 1) bytes in
    sym (take-append-drop (length word + 1) bytes) ∙ ap (λ (l : List ℕ). l ++ rest) first ∙ append_assoc word (b ∷ []) rest

-- such bytes have the word as their first bytes
pub starts_with-word : (bytes word : List ℕ) (b : ℕ) → take (length word + 1) bytes ≡ word ++ (b ∷ []) → take (length word) bytes ≡ word
starts_with-word bytes word b first = ap (λ (l : List ℕ). take (length word) l) (starts_with-rest bytes word b first) ∙ take-append_seam word _

-- the byte follows the word in them
pub starts_with-byte : (bytes word : List ℕ) (b x : ℕ) (rest : List ℕ) → take (length word + 1) bytes ≡ word ++ (b ∷ []) → drop (length word) bytes ≡ x ∷ rest → x ≡ b
starts_with-byte bytes word b x rest first back =
    ap (λ (l : List ℕ). get_or l 0 0) (sym back ∙ ap (λ (l : List ℕ). drop (length word) l) (starts_with-rest bytes word b first) ∙ drop-append_seam word _)
