-- Numbers no two of which are the same.
use Rattle.std.proofs.Common.{◌≡◌, ◌≢◌, ℕ, zero, suc, ◌+◌, ◌<◌, ◌≤◌, ◌⊎◌, inl, inr, Bool, true, false, eqb, cond, List}
use Rattle.std.proofs.Common.{[], ◌∷◌, ◌++◌, length, get_or, refl, sym, ap, subst, ◌∙◌, arith}
use Rattle.std.specs.Prelude.{Contains, AllPairs, ⊤, ◌==◌, ◌||◌, filter}
use Rattle.std.specs.List.{All, range_with_len}
use Rattle.std.proofs.lemmas.Bool.{cases_lt, cases_eq, eq-eqb, eqb-true, both_ways}
use Rattle.std.proofs.lemmas.List.Elements.{All-tail}
use Rattle.wq_items.specs.Readings.{is_among}
use Rattle.wq_items.proofs.Lists.{AllPairs-head, AllPairs-tail}
use Rattle.wq_items.proofs.Pigeonhole.{repeats_from_length}

-- q isn't among these
abbrev pub Avoids : ℕ → List ℕ → Type 0
Avoids q [] = ⊤
Avoids q (p ∷ ps) = (q ≢ p) × Avoids q ps

-- no two of these are the same
abbrev pub Apart : List ℕ → Type 0
Apart [] = ⊤
Apart (q ∷ qs) = Avoids q qs × Apart qs

-- q is among these
abbrev pub In : ℕ → List ℕ → Type 0
In q [] = ⊥
In q (p ∷ ps) = (q ≡ p) ⊎ In q ps

pub cases_In : (q : ℕ) (ps : List ℕ) → In q ps ⊎ Avoids q ps
cases_In q [] = inr tt
cases_In q (p ∷ ps) = elim (cases_eq q p) [
  | inl same ↦ inl (inl same)
  | inr other ↦ elim (cases_In q ps) [ inl later ↦ inl (inr later) | inr none ↦ inr (other, none) ]
]

pub not_in : (q : ℕ) (ps : List ℕ) → Avoids q ps → ¬ In q ps
not_in q [] avoids there = there
not_in q (p ∷ ps) avoids (inl same) = avoids.0 same
not_in q (p ∷ ps) avoids (inr later) = not_in q ps avoids.1 later

pub Avoids-from : (q : ℕ) (ps : List ℕ) → ¬ In q ps → Avoids q ps
Avoids-from q [] none = tt
Avoids-from q (p ∷ ps) none = ((λ same. none (inl same)), Avoids-from q ps (λ later. none (inr later)))

pub In-Contains : (q : ℕ) (ps : List ℕ) → Contains ps q → In q ps
In-Contains q [] (k, lt, at) = omega arith
In-Contains q (p ∷ ps) (zero, lt, at) = inl (sym at)
In-Contains q (p ∷ ps) (suc k, lt, at) = inr (In-Contains q ps (k, omega arith, at))

pub Contains-In : (q : ℕ) (ps : List ℕ) → In q ps → Contains ps q
Contains-In q [] there = absurd there
Contains-In q (p ∷ ps) (inl same) = (0, omega arith, sym same)
Contains-In q (p ∷ ps) (inr later) = let at = Contains-In q ps later in (suc at.0, omega (arith, at.1), at.2)

get_in : (ps : List ℕ) (k d : ℕ) → k < length ps → In (get_or ps k d) ps
get_in ps k d lt = In-Contains (get_or ps k d) ps (k, lt, fixed ps k d lt)
  where
    fixed : (xs : List ℕ) (i x : ℕ) → i < length xs → get_or xs i (get_or xs i x) ≡ get_or xs i x
    fixed [] i x lt = absurd (omega arith)
    fixed (y ∷ xs) zero x lt = refl
    fixed (y ∷ xs) (suc i) x lt = fixed xs i x (omega arith)

pub Apart-get : (qs : List ℕ) (i j d : ℕ) → Apart qs → i < j → j < length qs → get_or qs i d ≢ get_or qs j d
Apart-get [] i j d apart lt within same = omega arith
Apart-get (q ∷ qs) zero zero d apart lt within same = omega arith
Apart-get (q ∷ qs) zero (suc j) d apart lt within same = not_in q qs apart.0 (subst (λ (p : ℕ). In p qs) (sym same) (get_in qs j d (omega arith)))
Apart-get (q ∷ qs) (suc i) zero d apart lt within same = omega arith
Apart-get (q ∷ qs) (suc i) (suc j) d apart lt within same = Apart-get qs i j d apart.1 (omega arith) (omega arith) same

-- different numbers below n are at most n
pub Apart-few : (n : ℕ) (qs : List ℕ) → All (λ q. q < n) qs → Apart qs → length qs ≤ n
Apart-few n qs below apart = elim (cases_lt n (length qs)) [
  | inl more ↦ (
      let again = repeats_from_length n qs below more in
      absurd (Apart-get qs again.0 again.1 0 apart again.2 again.3 again.4)
      )
  | inr few ↦ few
]

pub AllPairs-Apart : (qs : List ℕ) → Apart qs → AllPairs (λ i j. i ≢ j) qs
AllPairs-Apart qs apart i j d lt within = Apart-get qs i j d apart lt within

pub In-append_left : (q : ℕ) (xs ys : List ℕ) → In q xs → In q (xs ++ ys)
In-append_left q [] ys there = absurd there
In-append_left q (x ∷ xs) ys (inl same) = inl same
In-append_left q (x ∷ xs) ys (inr later) = inr (In-append_left q xs ys later)

pub In-append_right : (q : ℕ) (xs ys : List ℕ) → In q ys → In q (xs ++ ys)
In-append_right q [] ys there = there
In-append_right q (x ∷ xs) ys there = inr (In-append_right q xs ys there)

pub Avoids-append : (q : ℕ) (xs ys : List ℕ) → Avoids q xs → Avoids q ys → Avoids q (xs ++ ys)
Avoids-append q [] ys one other = other
Avoids-append q (x ∷ xs) ys one other = (one.0, Avoids-append q xs ys one.1 other)

pub Apart-append : (xs ys : List ℕ) → Apart xs → Apart ys → ((x : ℕ) → In x xs → Avoids x ys) → Apart (xs ++ ys)
Apart-append [] ys one other across = other
Apart-append (x ∷ xs) ys one other across =
    (Avoids-append x xs ys one.0 (across x (inl refl)), Apart-append xs ys one.1 other (λ y there. across y (inr there)))

-- ---- parts of numbers that are apart

pub Apart-left : (xs ys : List ℕ) → Apart (xs ++ ys) → Apart xs
Apart-left [] ys apart = tt
Apart-left (x ∷ xs) ys apart =
    (Avoids-from x xs (λ there. not_in x (xs ++ ys) apart.0 (In-append_left x xs ys there)), Apart-left xs ys apart.1)

pub Apart-right : (xs ys : List ℕ) → Apart (xs ++ ys) → Apart ys
Apart-right [] ys apart = apart
Apart-right (x ∷ xs) ys apart = Apart-right xs ys apart.1

pub Apart-across : (xs ys : List ℕ) (x : ℕ) → Apart (xs ++ ys) → In x xs → ¬ In x ys
Apart-across [] ys x apart one other = one
Apart-across (z ∷ xs) ys x apart (inl same) other =
    not_in z (xs ++ ys) apart.0 (subst (λ (k : ℕ). In k (xs ++ ys)) same (In-append_right x xs ys other))
Apart-across (z ∷ xs) ys x apart (inr later) other = Apart-across xs ys x apart.1 later other

-- the last one first
pub Apart-turned : (q : ℕ) (qs : List ℕ) → Apart (qs ++ (q ∷ [])) → Apart (q ∷ qs)
Apart-turned q qs apart = (
  Avoids-from q qs (λ there. Apart-across qs (q ∷ []) q apart there (inl refl)),
  Apart-left qs (q ∷ []) apart,
)

Avoids-all : (q : ℕ) (ps : List ℕ) → All (λ p. q ≢ p) ps → Avoids q ps
Avoids-all q [] all = tt
Avoids-all q (p ∷ ps) all = (all 0 0 (omega arith), Avoids-all q ps (All-tail (λ r. q ≢ r) p ps all))

pub Apart-AllPairs : (qs : List ℕ) → AllPairs (λ i j. i ≢ j) qs → Apart qs
Apart-AllPairs [] pairs = tt
Apart-AllPairs (q ∷ qs) pairs = (
  Avoids-all q qs (AllPairs-head (λ i j. i ≢ j) q qs pairs),
  Apart-AllPairs qs
      (AllPairs-tail (λ i j. i ≢ j) q qs pairs),
)

-- ---- how many there may be among others

abbrev without : ℕ → List ℕ → List ℕ
without x [] = []
without x (y ∷ ys) = cond (eqb x y) ys (y ∷ without x ys)

length-without : (x : ℕ) (ys : List ℕ) → In x ys → length (without x ys) + 1 ≡ length ys
length-without x [] there = absurd there
length-without x (y ∷ ys) there = by (eqb x y) refl there (λ (later : In x ys). length-without x ys later)
  where
    by : (b : Bool) → eqb x y ≡ b → In x (y ∷ ys) → (In x ys → length (without x ys) + 1 ≡ length ys)
        → length (cond b ys (y ∷ without x ys)) + 1 ≡ suc (length ys)
    by true is here rest = omega arith
    by false is (inl same) rest = absurd (both_ways (eqb x y) is (eq-eqb x y same))
    by false is (inr later) rest = let less : length (without x ys) + 1 ≡ length ys = rest later in omega arith

In-without : (x z : ℕ) (ys : List ℕ) → In z ys → z ≢ x → In z (without x ys)
In-without x z [] there other = there
In-without x z (y ∷ ys) there other = by (eqb x y) refl there (λ (later : In z ys). In-without x z ys later other)
  where
    by : (b : Bool) → eqb x y ≡ b → In z (y ∷ ys) → (In z ys → In z (without x ys))
        → In z (cond b ys (y ∷ without x ys))
    by true is (inl same) rest = absurd (other (let it : x ≡ y = eqb-true x y is in omega (arith, it, same)))
    by true is (inr later) rest = later
    by false is (inl same) rest = inl same
    by false is (inr later) rest = inr (rest later)

-- different numbers, each of them among others, are no more than these
pub Apart-within : (xs ys : List ℕ) → Apart xs → ((x : ℕ) → In x xs → In x ys) → length xs ≤ length ys
Apart-within [] ys apart all = omega arith
Apart-within (x ∷ xs) ys apart all =
    let rest : length xs ≤ length (without x ys) = Apart-within xs (without x ys) apart.1
    (λ z there. In-without x z ys (all z (inr there))
    (λ same. not_in x xs apart.0 (subst (λ (k : ℕ). In k xs) same there))) in
    let one : length (without x ys) + 1 ≡ length ys = length-without x ys (all x (inl refl)) in
    omega arith

-- ---- those that pass a test

pub In-filter : (p : ℕ → Bool) (x : ℕ) (xs : List ℕ) → In x xs → p x ≡ true → In x (filter p xs)
In-filter p x [] there passes = there
In-filter p x (y ∷ ys) there passes = by (p y) refl there (λ (later : In x ys). In-filter p x ys later passes)
  where
    by : (b : Bool) → p y ≡ b → In x (y ∷ ys) → (In x ys → In x (filter p ys))
        → In x (cond b (y ∷ filter p ys) (filter p ys))
    by true is (inl same) rest = inl same
    by true is (inr later) rest = inr (rest later)
    by false is (inl same) rest = absurd (both_ways (p x) (ap p same ∙ is) passes)
    by false is (inr later) rest = rest later

pub filter-In : (p : ℕ → Bool) (x : ℕ) (xs : List ℕ) → In x (filter p xs) → In x xs × (p x ≡ true)
filter-In p x [] there = absurd there
filter-In p x (y ∷ ys) there = by (p y) refl there (λ (later : In x (filter p ys)). filter-In p x ys later)
  where
    by : (b : Bool) → p y ≡ b → In x (cond b (y ∷ filter p ys) (filter p ys))
        → (In x (filter p ys) → In x ys × (p x ≡ true))
        → In x (y ∷ ys) × (p x ≡ true)
    by true is (inl same) rest = (inl same, ap p same ∙ is)
    by true is (inr later) rest = let old = rest later in (inr old.0, old.1)
    by false is later rest = let old = rest later in (inr old.0, old.1)

pub Apart-filter : (p : ℕ → Bool) (xs : List ℕ) → Apart xs → Apart (filter p xs)
Apart-filter p [] apart = tt
Apart-filter p (x ∷ xs) apart = by (p x) (Apart-filter p xs apart.1)
  where
    by : (b : Bool) → Apart (filter p xs) → Apart (cond b (x ∷ filter p xs) (filter p xs))
    by true rest = (Avoids-from x (filter p xs) (λ there. not_in x xs apart.0 (filter-In p x xs there).0), rest)
    by false rest = rest

pub In-among : (p : ℕ) (ks : List ℕ) → In p ks → is_among ks p ≡ true
In-among p [] there = absurd there
In-among p (k ∷ ks) (inl same) = ap (λ (b : Bool). b || is_among ks p) (eq-eqb k p (sym same))
In-among p (k ∷ ks) (inr later) = by (k == p) (In-among p ks later)
  where
    by : (b : Bool) → is_among ks p ≡ true → (b || is_among ks p) ≡ true
    by true rest = refl
    by false rest = rest

pub among-In : (p : ℕ) (ks : List ℕ) → is_among ks p ≡ true → In p ks
among-In p [] is = absurd cc
among-In p (k ∷ ks) is = by (k == p) refl is (λ (h : is_among ks p ≡ true). among-In p ks h)
  where
    by : (b : Bool) → (k == p) ≡ b → (b || is_among ks p) ≡ true → (is_among ks p ≡ true → In p ks) → In p (k ∷ ks)
    by true test h rest = inl (sym (eqb-true k p test))
    by false test h rest = inr (rest h)

-- ---- those of the numbers below n

range-avoids : (q a n : ℕ) → q < a → Avoids q (range_with_len a n)
range-avoids q a zero low = tt
range-avoids q a (suc n) low = ((λ same. omega (arith, same, low)), range-avoids q (a + 1) n (omega arith))

pub Apart-range : (a n : ℕ) → Apart (range_with_len a n)
Apart-range a zero = tt
Apart-range a (suc n) = (range-avoids a (a + 1) n (omega arith), Apart-range (a + 1) n)

In-range : (a n x : ℕ) → a ≤ x → x < a + n → In x (range_with_len a n)
In-range a zero x low high = absurd (omega arith)
In-range a (suc n) x low high = elim (cases_eq x a) [
  | inl same ↦ inl same
  | inr other ↦ inr (In-range (a + 1) n x (omega arith) (omega arith))
]

pub In-needed : (n : ℕ) (us : List ℕ) (p : ℕ) → In p us → p < n → In p (filter (is_among us) (range_with_len 0 n))
In-needed n us p there low =
    In-filter (is_among us) p (range_with_len 0 n) (In-range 0 n p (omega arith) (omega arith)) (In-among p us there)

-- as many as there are, if they are apart
pub length-needed : (n : ℕ) (us : List ℕ) → Apart us → ((p : ℕ) → In p us → p < n)
    → length (filter (is_among us) (range_with_len 0 n)) ≡ length us
length-needed n us apart low =
    let needed : List ℕ = filter (is_among us) (range_with_len 0 n) in
    let most : length needed ≤ length us = Apart-within needed us
    (Apart-filter (is_among us) (range_with_len 0 n) (Apart-range 0 n))
    (λ p there. among-In p us (filter-In (is_among us) p (range_with_len 0 n) there).1) in
    let least : length us ≤ length needed = Apart-within us needed apart
    (λ p there. In-needed n us p there (low p there)) in
    omega arith
