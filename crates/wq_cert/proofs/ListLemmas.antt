-- Lists of numbers: ranges, what passes a test, and what is in them.
use Rattle.std.proofs.Common.{◌≡◌, ℕ, zero, suc, ◌+◌, ◌<◌, ◌≤◌, Bool, true, false, cond, eqb, ltb, List, [], ◌∷◌, ◌++◌, length, get_or, Some, None, refl, sym, ap, ◌∙◌, arith, inl, inr}
use Rattle.std.specs.Prelude.{filter, position}
use Rattle.std.specs.List.{AllByRecursion, list_any, list_all, position_or_len, range_with_len}
use Rattle.std.proofs.lemmas.Bool.{cases_lt, lt-ltb, eqb-true, eq-eqb, ne_eqb, or_cases, or_left, or_right, or_from, and_from}
use Rattle.std.proofs.lemmas.List.Folds.{list_any-append}
use Rattle.std.proofs.lemmas.List.Sums.{position_or_len_is}
use Rattle.wq_cert.specs.Reading.{stands_in, has_stood}

module _ {X : Type 0} where
  pub AllByRecursion-append : (P : X → Type 0) (xs ys : List X) → AllByRecursion P xs → AllByRecursion P ys → AllByRecursion P (xs ++ ys)
  AllByRecursion-append P [] ys left right = right
  AllByRecursion-append P (x ∷ xs) ys left right = (left.0, AllByRecursion-append P xs ys left.1 right)

  pub AllByRecursion-weaker : (P Q : X → Type 0) → ((x : X) → P x → Q x) → (xs : List X) → AllByRecursion P xs → AllByRecursion Q xs
  AllByRecursion-weaker P Q weaker [] h = tt
  AllByRecursion-weaker P Q weaker (x ∷ xs) h = (weaker x h.0, AllByRecursion-weaker P Q weaker xs h.1)

  -- ---- tests

  pub list_any-none : (p : X → Bool) (xs : List X) → AllByRecursion (λ x. p x ≡ false) xs → list_any p xs ≡ false
  list_any-none p [] h = refl
  list_any-none p (x ∷ xs) h = or_from (p x) (list_any p xs) h.0 (list_any-none p xs h.1)

  pub list_all-each : (p : X → Bool) (xs : List X) → AllByRecursion (λ x. p x ≡ true) xs → list_all p xs ≡ true
  list_all-each p [] h = refl
  list_all-each p (x ∷ xs) h = and_from (p x) (list_all p xs) h.0 (list_all-each p xs h.1)

  -- what passes the test among elements that P holds for
  pub AllByRecursion-filter : (P Q : X → Type 0) (p : X → Bool) → ((x : X) → P x → p x ≡ true → Q x) → (xs : List X) → AllByRecursion P xs → AllByRecursion Q (filter p xs)
  AllByRecursion-filter P Q p passes [] h = tt
  AllByRecursion-filter P Q p passes (x ∷ xs) h = chosen (p x) refl (AllByRecursion-filter P Q p passes xs h.1)
    where
      chosen : (b : Bool) → p x ≡ b → AllByRecursion Q (filter p xs) → AllByRecursion Q (cond b (x ∷ filter p xs) (filter p xs))
      chosen true e rest = (passes x h.0 e, rest)
      chosen false e rest = rest

  pub length-filter-le : (p : X → Bool) (xs : List X) → length (filter p xs) ≤ length xs
  length-filter-le p [] = omega arith
  length-filter-le p (x ∷ xs) = chosen (p x) (length-filter-le p xs)
    where
      chosen : (b : Bool) → length (filter p xs) ≤ length xs → length (cond b (x ∷ filter p xs) (filter p xs)) ≤ length (x ∷ xs)
      chosen true le = omega arith
      chosen false le = omega arith

  pub position-first : (p : X → Bool) (xs : List X) (i : ℕ) (d : X) → i < length xs → ((k : ℕ) → k < i → p (get_or xs k d) ≡ false) → p (get_or xs i d) ≡ true → position p xs ≡ Some i
  position-first p xs i d within before here =
      let place : position_or_len p xs ≡ i = position_or_len_is p xs i d (omega arith) before (λ lt. here) in
      ap (λ (n : ℕ). cond (ltb n (length xs)) (Some n) None) place ∙ ap (λ (b : Bool). cond b (Some i) None) (lt-ltb i (length xs) within)

-- E relates no element of one list to an element of the other
pub list_any-apart : (P Q : ℕ → Type 0) (E : ℕ → ℕ → Bool) → ((i j : ℕ) → P i → Q j → E i j ≡ false) → (is js : List ℕ) → AllByRecursion P is → AllByRecursion Q js
    → AllByRecursion (λ i. list_any (E i) js ≡ false) is
list_any-apart P Q E apart is js left right =
    AllByRecursion-weaker P (λ i. list_any (E i) js ≡ false) (λ i h. list_any-none (E i) js (AllByRecursion-weaker Q (λ j. E i j ≡ false) (λ j k. apart i j h k) js right)) is left

-- ---- ranges

pub AllByRecursion-range_with_len : (P : ℕ → Type 0) (a n : ℕ) → ((i : ℕ) → a ≤ i → i < a + n → P i) → AllByRecursion P (range_with_len a n)
AllByRecursion-range_with_len P a zero each = tt
AllByRecursion-range_with_len P a (suc n) each = (each a (omega arith) (omega arith), AllByRecursion-range_with_len P (a + 1) n (λ i low high. each i (omega arith) (omega arith)))

-- ---- what is in a list

pub stands_in-range_with_len : (a n i : ℕ) → a ≤ i → i < a + n → stands_in (range_with_len a n) i ≡ true
stands_in-range_with_len a zero i low high = absurd (omega arith)
stands_in-range_with_len a (suc n) i low high = elim (cases_lt a i) [
  | inl above ↦ or_right (eqb i a) (stands_in (range_with_len (a + 1) n) i) (stands_in-range_with_len (a + 1) n i (omega arith) (omega arith))
  | inr here ↦ or_left (eqb i a) (stands_in (range_with_len (a + 1) n) i) (eq-eqb i a (omega arith))
]

pub stands_in-filter : (p : ℕ → Bool) (xs : List ℕ) (i : ℕ) → stands_in xs i ≡ true → p i ≡ true → stands_in (filter p xs) i ≡ true
stands_in-filter p [] i h passes = h
stands_in-filter p (x ∷ xs) i h passes = elim (or_cases (eqb i x) (stands_in xs i) h) [
  | inl here ↦
      let kept : p x ≡ true = ap p (sym (eqb-true i x here)) ∙ passes in
      rw kept (or_left (eqb i x) (stands_in (filter p xs) i) here)
  | inr later ↦ either (p x) (stands_in-filter p xs i later passes)
]
  where
    either : (b : Bool) → stands_in (filter p xs) i ≡ true → stands_in (cond b (x ∷ filter p xs) (filter p xs)) i ≡ true
    either true e = or_right (eqb i x) (stands_in (filter p xs) i) e
    either false e = e

-- what is in the list passes
pub list_any-at : (p : ℕ → Bool) (xs : List ℕ) (i : ℕ) → stands_in xs i ≡ true → p i ≡ true → list_any p xs ≡ true
list_any-at p [] i h passes = h
list_any-at p (x ∷ xs) i h passes = elim (or_cases (eqb i x) (stands_in xs i) h) [
  | inl here ↦ or_left (p x) (list_any p xs) (ap p (sym (eqb-true i x here)) ∙ passes)
  | inr later ↦ or_right (p x) (list_any p xs) (list_any-at p xs i later passes)
]

pub stands_in-left : (xs ys : List ℕ) (i : ℕ) → stands_in xs i ≡ true → stands_in (xs ++ ys) i ≡ true
stands_in-left xs ys i h = list_any-append (λ j. eqb i j) xs ys ∙ or_left (stands_in xs i) (stands_in ys i) h

pub stands_in-right : (xs ys : List ℕ) (i : ℕ) → stands_in ys i ≡ true → stands_in (xs ++ ys) i ≡ true
stands_in-right xs ys i h = list_any-append (λ j. eqb i j) xs ys ∙ or_right (stands_in xs i) (stands_in ys i) h

-- ---- rising numbers are there once

-- each number is above the one before it, and the first is at least this
abbrev pub IsRisingFrom : ℕ → List ℕ → Type 0
IsRisingFrom a [] = Unit {0}
IsRisingFrom a (i ∷ is) = (a ≤ i) × IsRisingFrom (i + 1) is

IsRisingFrom-lower : (a b : ℕ) (is : List ℕ) → b ≤ a → IsRisingFrom a is → IsRisingFrom b is
IsRisingFrom-lower a b [] le h = tt
IsRisingFrom-lower a b (i ∷ is) le h = (omega (arith, h.0), h.1)

pub IsRisingFrom-filter : (p : ℕ → Bool) (a n : ℕ) → IsRisingFrom a (filter p (range_with_len a n))
IsRisingFrom-filter p a zero = tt
IsRisingFrom-filter p a (suc n) = chosen (p a) (IsRisingFrom-filter p (a + 1) n)
  where
    chosen : (b : Bool) → IsRisingFrom (a + 1) (filter p (range_with_len (a + 1) n)) → IsRisingFrom a (cond b (a ∷ filter p (range_with_len (a + 1) n)) (filter p (range_with_len (a + 1) n)))
    chosen true h = (omega arith, h)
    chosen false h = IsRisingFrom-lower (a + 1) a (filter p (range_with_len (a + 1) n)) (omega arith) h

-- rising numbers above i that aren't in a list aren't in it either when i is added at its end
fresh-push : (before : List ℕ) (i : ℕ) (is : List ℕ) → AllByRecursion (λ j. stands_in before j ≡ false) is → IsRisingFrom (i + 1) is → AllByRecursion (λ j. stands_in (before ++ (i ∷ [])) j ≡ false) is
fresh-push before i [] fresh rises = tt
fresh-push before i (j ∷ js) fresh rises =
    let other : eqb j i ≡ false = ne_eqb j i (λ e. omega (arith, rises.0, e)) in (
      list_any-append (λ k. eqb j k) before (i ∷ []) ∙ or_from (stands_in before j) (stands_in (i ∷ []) j) fresh.0 (or_from (eqb j i) false other refl),
      fresh-push before i js fresh.1 (IsRisingFrom-lower (j + 1) (i + 1) js (omega (arith, rises.0)) rises.1),
    )

pub has_stood-rising : (before : List ℕ) (a : ℕ) (is : List ℕ) → AllByRecursion (λ i. stands_in before i ≡ false) is → IsRisingFrom a is → has_stood before is ≡ false
has_stood-rising before a [] fresh rises = refl
has_stood-rising before a (i ∷ is) fresh rises =
    or_from (stands_in before i) (has_stood (before ++ (i ∷ [])) is) fresh.0 (has_stood-rising (before ++ (i ∷ [])) (i + 1) is (fresh-push before i is fresh.1 rises.1) rises.1)
