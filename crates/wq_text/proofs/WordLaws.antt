-- The words of bytes are the only ones, and where they are.
use Rattle.std.proofs.Common.{◌≡◌, ◌≢◌, ℕ, ◌+◌, ◌<◌, ◌≤◌, Bool, true, false, List, [], ◌∷◌, ◌++◌, length, refl, sym, ap, subst, ◌∙◌, arith, length-append}
use Rattle.std.specs.List.{All, AllPairs}
use Rattle.std.proofs.lemmas.List.Elements.{All-nil, All-cons, All-weaker}
use Rattle.std.proofs.lemmas.List.Kept.{AllPairs-cons}
use Rattle.wq_text.specs.Words.{WordView, words_from, is_blank, is_filled, begins_word, longer, AllBlank, NoBlank, EndsAWord, IsFirstWord, AreTheWords}
use Rattle.wq_text.proofs.WordLemmas.{cons_not_nil, words_from-first_word, words_from-blank}

-- ---- they are words

AreTheWords-blank : (at b : ℕ) (bs : List ℕ) (ws : List WordView) → is_blank b ≡ true → AreTheWords (at + 1) bs ws → AreTheWords at (b ∷ bs) ws
AreTheWords-blank at b bs [] e h = (e, h)
AreTheWords-blank at b bs (w ∷ ws) e (rest, first, more) = (
  rest,
  record {
    gap = b ∷ first.gap;
    blanks = (e, first.blanks);
    parts = ap (λ (ys : List ℕ). b ∷ ys) first.parts;
    starts = first.starts ∙ omega arith;
    filled = first.filled;
    unbroken = first.unbroken;
    longest = first.longest;
  },
  more,
)

AreTheWords-alone : (at b : ℕ) (bs : List ℕ) (ws : List WordView) → is_blank b ≡ false → begins_word bs ≡ false → AreTheWords (at + 1) bs ws
    → AreTheWords at (b ∷ bs) (record { start = at; bytes = b ∷ [] } ∷ ws)
AreTheWords-alone at b bs ws e ends h = (
  bs,
  record {
    gap = [];
    blanks = tt;
    parts = refl;
    starts = omega arith;
    filled = cons_not_nil b [];
    unbroken = (e, tt);
    longest = ends;
  },
  h,
)

blank_begins_none : (gap tail : List ℕ) → AllBlank gap → begins_word (gap ++ tail) ≡ true → gap ≡ []
blank_begins_none [] tail blank begins = refl
blank_begins_none (b ∷ gap) tail blank begins = absurd (let e : is_filled b ≡ false = rw blank.0 refl in cc)

AreTheWords-longer : (at b : ℕ) (bs : List ℕ) (ws : List WordView) → is_blank b ≡ false → begins_word bs ≡ true → AreTheWords (at + 1) bs ws → AreTheWords at (b ∷ bs) (longer at b ws)
AreTheWords-longer at b [] [] e begins h = absurd cc
AreTheWords-longer at b (c ∷ bs) [] e begins h = absurd (let blank : is_filled c ≡ false = rw h.0 refl in cc)
AreTheWords-longer at b bs (w ∷ ws) e begins (rest, first, more) =
    let none : first.gap ≡ [] = blank_begins_none first.gap (w.bytes ++ rest) first.blanks (subst (λ (ys : List ℕ). begins_word ys ≡ true) first.parts begins) in
    let parts : bs ≡ w.bytes ++ rest = first.parts ∙ ap (λ (gap : List ℕ). gap ++ (w.bytes ++ rest)) none in
    let ends : w.start + length w.bytes ≡ at + length (b ∷ w.bytes) = omega (arith, first.starts, ap length none) in (
      rest,
      record {
        gap = [];
        blanks = tt;
        parts = ap (λ (ys : List ℕ). b ∷ ys) parts;
        starts = omega arith;
        filled = cons_not_nil b w.bytes;
        unbroken = (e, first.unbroken);
        longest = first.longest;
      },
      subst (λ k. AreTheWords k rest ws) ends more,
    )

AreTheWords-step : (at b : ℕ) (bs : List ℕ) (blank begins : Bool) → is_blank b ≡ blank → begins_word bs ≡ begins → AreTheWords (at + 1) bs (words_from (at + 1) bs)
    → AreTheWords at (b ∷ bs) (words_from at (b ∷ bs))
AreTheWords-step at b bs true begins e f h =
    let cut : words_from at (b ∷ bs) ≡ words_from (at + 1) bs = rw e refl in
    subst (AreTheWords at (b ∷ bs)) (sym cut) (AreTheWords-blank at b bs (words_from (at + 1) bs) e h)
AreTheWords-step at b bs false true e f h =
    let cut : words_from at (b ∷ bs) ≡ longer at b (words_from (at + 1) bs) = rw (e, f) refl in
    subst (AreTheWords at (b ∷ bs)) (sym cut) (AreTheWords-longer at b bs (words_from (at + 1) bs) e f h)
AreTheWords-step at b bs false false e f h =
    let cut : words_from at (b ∷ bs) ≡ record { start = at; bytes = b ∷ [] } ∷ words_from (at + 1) bs = rw (e, f) refl in
    subst (AreTheWords at (b ∷ bs)) (sym cut) (AreTheWords-alone at b bs (words_from (at + 1) bs) e f h)

pub AreTheWords-words_from : (at : ℕ) (bs : List ℕ) → AreTheWords at bs (words_from at bs)
AreTheWords-words_from at [] = tt
AreTheWords-words_from at (b ∷ bs) = AreTheWords-step at b bs (is_blank b) (begins_word bs) refl refl (AreTheWords-words_from (at + 1) bs)

-- ---- no other list is

pub words_from-AreTheWords : (at : ℕ) (bs : List ℕ) (others : List WordView) → AreTheWords at bs others → others ≡ words_from at bs
words_from-AreTheWords at bs [] h = sym (words_from-blank at bs h)
words_from-AreTheWords at bs (w ∷ ws) (rest, first, more) =
    ap (λ (vs : List WordView). w ∷ vs) (words_from-AreTheWords (w.start + length w.bytes) rest ws more) ∙ sym (words_from-first_word at bs w rest first)

-- ---- they are within the bytes, in order and apart

-- the word begins no earlier than this offset, and ends no later than that one
abbrev pub IsBetween : ℕ → ℕ → WordView → Type 0
IsBetween from to w = (from ≤ w.start) × (w.start + length w.bytes ≤ to)

length-parts : (at : ℕ) (bs : List ℕ) (w : WordView) (rest : List ℕ) (first : IsFirstWord at bs w rest) → length bs ≡ length first.gap + (length w.bytes + length rest)
length-parts at bs w rest first = ap length first.parts ∙ simp length-append

pub IsBetween-AreTheWords : (at : ℕ) (bs : List ℕ) (ws : List WordView) → AreTheWords at bs ws → All (IsBetween at (at + length bs)) ws
IsBetween-AreTheWords at bs [] h = All-nil (IsBetween at (at + length bs))
IsBetween-AreTheWords at bs (w ∷ ws) (rest, first, more) =
    let total = length-parts at bs w rest first in
    let starts = first.starts in
    let end = w.start + length w.bytes in
    let others = IsBetween-AreTheWords end rest ws more in
    All-cons (IsBetween at (at + length bs)) w ws (omega arith, omega arith)
    (All-weaker (IsBetween end (end + length rest)) (IsBetween at (at + length bs)) (λ v between. (omega arith, omega arith)) ws others)

some_gap : (gap word rest : List ℕ) → word ≢ [] → NoBlank word → EndsAWord (gap ++ (word ++ rest)) → 0 < length gap
some_gap [] [] rest filled unbroken ends = absurd (filled refl)
some_gap [] (b ∷ word) rest filled unbroken ends = absurd (let e : is_filled b ≡ true = rw unbroken.0 refl in cc)
some_gap (g ∷ gap) word rest filled unbroken ends = omega arith

abbrev BeginsAfter : ℕ → WordView → Type 0
BeginsAfter at w = at < w.start

-- words after a word begin later
begin_later : (at : ℕ) (bs : List ℕ) (ws : List WordView) → EndsAWord bs → AreTheWords at bs ws → All (BeginsAfter at) ws
begin_later at bs [] ends h = All-nil (BeginsAfter at)
begin_later at bs (w ∷ ws) ends (rest, first, more) =
    let starts = first.starts in
    let some : 0 < length first.gap = some_gap first.gap w.bytes rest first.filled first.unbroken (subst EndsAWord first.parts ends) in
    let end = w.start + length w.bytes in
    let others = IsBetween-AreTheWords end rest ws more in
    All-cons (BeginsAfter at) w ws (omega arith) (All-weaker (IsBetween end (end + length rest)) (BeginsAfter at) (λ v between. omega arith) ws others)

-- the word ends before the other begins
abbrev pub EndsBefore : WordView → WordView → Type 0
EndsBefore word next = word.start + length word.bytes < next.start

pub AllPairs-AreTheWords : (at : ℕ) (bs : List ℕ) (ws : List WordView) → AreTheWords at bs ws → AllPairs EndsBefore ws
AllPairs-AreTheWords at bs [] h = λ i j d lt len. absurd (omega arith)
AllPairs-AreTheWords at bs (w ∷ ws) (rest, first, more) =
    AllPairs-cons EndsBefore w ws (begin_later (w.start + length w.bytes) rest ws first.longest more) (AllPairs-AreTheWords (w.start + length w.bytes) rest ws more)
