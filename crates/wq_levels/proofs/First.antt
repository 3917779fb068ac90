-- The first element of a list that has a property, and the least number that has it.
use Rattle.std.proofs.Common.{◌≡◌, ℕ, zero, suc, ◌<◌, ◌⊎◌, inl, inr, Bool, true, false, not, List, [], ◌∷◌, length, get_or, find, position, Option, Some, None, Any, Bor, refl, sym, ◌∙◌, ap, subst, lt-ltb, arith}
use Rattle.std.specs.Prelude.{IsSome}
use Rattle.std.specs.Option.{option_copied}
use Rattle.std.proofs.lemmas.Option.{same_Some}
use Rattle.std.specs.List.{prefix_len}
use Rattle.std.proofs.lemmas.Bool.{cases_Bool, cases_lt, true≢false}

-- x is the first element that has P
pub record IsFirst {X : Type 0} (P : X → Type 0) (xs : List X) (x : X) : Type 0 where
  pub place : ℕ
  pub fits : place < length xs
  pub here : get_or xs place x ≡ x
  pub holds : P x
  pub earlier : (m : ℕ) (d : X) → m < place → ¬ P (get_or xs m d)

-- the test passes what has P, and nothing else
pub record Tells {X : Type 0} (P : X → Type 0) (test : X → Bool) : Type 0 where
  pub passes : (x : X) → test x ≡ true → P x
  pub fails : (x : X) → test x ≡ false → ¬ P x

-- it holds or it doesn't
abbrev pub Decided : Type 0 → Type 0
Decided P = P ⊎ (¬ P)

-- the test that a decision is
abbrev pub told : {P : Type 0} → Decided P → Bool
told (inl holds) = true
told (inr none) = false

told-passes : (P : Type 0) (d : Decided P) → told d ≡ true → P
told-passes P (inl holds) passes = holds
told-passes P (inr none) passes = absurd (true≢false (sym passes))

told-fails : (P : Type 0) (d : Decided P) → told d ≡ false → ¬ P
told-fails P (inl holds) fails = absurd (true≢false fails)
told-fails P (inr none) fails = none

pub Tells-told : {X : Type 0} (P : X → Type 0) (each : (x : X) → Decided (P x)) → Tells P (λ x. told (each x))
Tells-told P each = record { passes = λ x. told-passes (P x) (each x); fails = λ x. told-fails (P x) (each x) }

module _ {X : Type 0} (P : X → Type 0) where
  first_here : (x : X) (xs : List X) → P x → IsFirst P (x ∷ xs) x
  first_here x xs holds = record { place = 0; fits = omega arith; here = refl; holds = holds; earlier = λ m d less. absurd (omega arith) }

  first_later : (y : X) (ys : List X) (x : X) → ¬ P y → IsFirst P ys x → IsFirst P (y ∷ ys) x
  first_later y ys x none first = record {
    place = suc first.place;
    fits = let fits : first.place < length ys = first.fits in omega arith;
    here = first.here;
    holds = first.holds;
    earlier = before;
  }
    where
      before : (m : ℕ) (d : X) → m < suc first.place → ¬ P (get_or (y ∷ ys) m d)
      before zero d less = none
      before (suc m) d less = first.earlier m d (omega arith)

  any_later : (k : ℕ) (x y : X) (ys : List X) → k < length (y ∷ ys) → get_or (y ∷ ys) k x ≡ x → P x → ¬ P y → Any P ys
  any_later zero x y ys fits at holds none = absurd (none (subst P (sym at) holds))
  any_later (suc k) x y ys fits at holds none = (k, x, omega arith, at, holds)

  -- if an element has P, the first that has it is found
  pub IsFirst-find : (test : X → Bool) → Tells P test → (xs : List X) → Any P xs → (x : X) × (find test xs ≡ Some x) × IsFirst P xs x
  IsFirst-find test tells [] found = absurd (omega (arith, found.2))
  IsFirst-find test tells (y ∷ ys) found = elim (cases_Bool (test y)) [
    | inl now ↦ (y, rw now refl, first_here y ys (tells.passes y now))
    | inr fails ↦
        let none = tells.fails y fails in
        let later = IsFirst-find test tells ys (any_later found.0 found.1 y ys found.2 found.3 found.4 none) in
        (later.0, rw fails later.1, first_later y ys later.0 none later.2)
  ]

-- the least number that has P, if it is decided for each
module _ (P : ℕ → Type 0) (each : (v : ℕ) → Decided (P v)) where
  none_or_least : (n : ℕ) → ((v : ℕ) → v < n → ¬ P v) ⊎ ((v : ℕ) × P v × ((w : ℕ) → w < v → ¬ P w))
  none_or_least zero = inl (λ v below. absurd (omega arith))
  none_or_least (suc n) = elim (none_or_least n) [
    | inl none ↦ elim (each n) [
      | inl holds ↦ inr (n, holds, none)
      | inr not_here ↦ inl (λ v below. elim (cases_lt v n) [
        | inl earlier ↦ none v earlier
        | inr here ↦ let same : n ≡ v = omega arith in subst (λ w. ¬ P w) same not_here
      ])
    ]
    | inr found ↦ inr found
  ]

  pub least_from : (v : ℕ) → P v → (u : ℕ) × P u × ((w : ℕ) → w < u → ¬ P w)
  least_from v holds = elim (none_or_least (suc v)) [
    | inl none ↦ absurd (none v (omega arith) holds)
    | inr found ↦ found
  ]

-- if an element passes, the place of the first that does is found
prefix_len-fails : {X : Type 0} (test : X → Bool) (xs : List X) (k : ℕ) (d : X) → k < length xs → test (get_or xs k d) ≡ true → prefix_len (λ x. not (test x)) xs < length xs
prefix_len-fails test [] k d fits passes = absurd (omega arith)
prefix_len-fails test (y ∷ ys) zero d fits passes = rw passes (omega arith)
prefix_len-fails test (y ∷ ys) (suc k) d fits passes = elim (cases_Bool (test y)) [
  | inl now ↦ rw now (omega arith)
  | inr fails ↦ let later = prefix_len-fails test ys k d (omega arith) passes in rw fails (omega arith)
]

pub position-is : {X : Type 0} (test : X → Bool) (xs : List X) (k : ℕ) (d : X) → k < length xs → test (get_or xs k d) ≡ true → (i : ℕ) × (position test xs ≡ Some i)
position-is test xs k d fits passes =
    (prefix_len (λ x. not (test x)) xs, rw (lt-ltb (prefix_len (λ x. not (test x)) xs) (length xs) (prefix_len-fails test xs k d fits passes)) refl)

-- a copy of a value is there if the value is
pub IsSome-copied : {T : Type 0} (o : Option (Bor T)) (x : T) → option_copied o ≡ Some x → IsSome o
IsSome-copied None x copied = cc
IsSome-copied (Some y) x copied = refl

pub same_copied : {T : Type 0} (o : Option (Bor T)) (y : Bor T) (x : T) → o ≡ Some y → option_copied o ≡ Some x → x ≡ y.now
same_copied o y x some copied = same_Some x y.now (sym copied ∙ ap (λ (p : Option (Bor _)). option_copied p) some)
