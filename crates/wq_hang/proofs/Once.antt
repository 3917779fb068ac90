-- Numbers, each of them once.
use Rattle.std.proofs.Common.{◌≡◌, ◌≢◌, ℕ, ◌+◌, ◌≤◌, inl, inr, Bool, true, false, not, List, [], ◌∷◌, ◌++◌, length}
use Rattle.std.proofs.Common.{◌⊎◌, cond, refl, ap, ◌∙◌, arith}
use Rattle.std.specs.Prelude.{◌==◌, filter}
use Rattle.std.proofs.lemmas.Bool.{cases_eq, eq-eqb, eqb-true, both_ways}
use Rattle.std.proofs.lemmas.List.{append-nil}
use Rattle.std.proofs.lemmas.List.Elements.{filter-append}
use Rattle.wq_hang.specs.WalkFor.{once}
use Rattle.wq_hang.proofs.Apart.{Avoids, Avoids-from, Apart, In, In-filter, filter-In, Apart-filter, Apart-within}
use Rattle.wq_hang.proofs.Apart.{cases_In, not_in}

differs : (x y : ℕ) → x ≢ y → not (x == y) ≡ true
differs x y other = by (x == y) refl
  where
    by : (b : Bool) → (x == y) ≡ b → not b ≡ true
    by true is = absurd (other (eqb-true x y is))
    by false is = refl

-- what is left out is there before
pub once-In : (x : ℕ) (xs : List ℕ) → In x xs → In x (once xs)
once-In x [] there = there
once-In x (y ∷ ys) (inl same) = inl same
once-In x (y ∷ ys) (inr later) = elim (cases_eq x y) [
  | inl same ↦ inl same
  | inr other ↦ inr (In-filter (λ j. not (j == y)) x (once ys) (once-In x ys later) (differs x y other))
]

pub In-once : (x : ℕ) (xs : List ℕ) → In x (once xs) → In x xs
In-once x [] there = there
In-once x (y ∷ ys) (inl same) = inl same
In-once x (y ∷ ys) (inr later) = inr (In-once x ys (filter-In (λ j. not (j == y)) x (once ys) later).0)

pub Apart-once : (xs : List ℕ) → Apart (once xs)
Apart-once [] = tt
Apart-once (y ∷ ys) = (
  Avoids-from y (filter (λ j. not (j == y)) (once ys)) (λ there.
      both_ways (not (y == y)) (ap not (eq-eqb y y refl)) (filter-In (λ j. not (j == y)) y (once ys) there).1),
  Apart-filter (λ j. not (j == y)) (once ys) (Apart-once ys),
)

-- how many they are: no more than others among which each of them is
pub length-once : (xs ys : List ℕ) → ((x : ℕ) → In x xs → In x ys) → length (once xs) ≤ length ys
length-once xs ys all = Apart-within (once xs) ys (Apart-once xs) (λ x there. all x (In-once x xs there))

-- ---- one more

kept : (x y : ℕ) (zs : List ℕ) → y ≢ x → filter (λ j. not (j == x)) (zs ++ (y ∷ []))
    ≡ filter (λ j. not (j == x)) zs ++ (y ∷ [])
kept x y zs other =
    filter-append (λ j. not (j == x)) zs (y ∷ [])
    ∙ ap (λ (b : Bool). filter (λ j. not (j == x)) zs ++ cond b (y ∷ []) []) (differs y x other)

gone : (x y : ℕ) (zs : List ℕ) → y ≡ x → filter (λ j. not (j == x)) (zs ++ (y ∷ []))
    ≡ filter (λ j. not (j == x)) zs
gone x y zs same =
    filter-append (λ j. not (j == x)) zs (y ∷ [])
    ∙ ap (λ (b : Bool). filter (λ j. not (j == x)) zs ++ cond b (y ∷ []) []) (ap not (eq-eqb y x same))
    ∙ append-nil (filter (λ j. not (j == x)) zs)

-- another one comes last
pub once-new : (y : ℕ) (xs : List ℕ) → Avoids y xs → once (xs ++ (y ∷ [])) ≡ once xs ++ (y ∷ [])
once-new y [] avoids = refl
once-new y (x ∷ xs) avoids =
    ap (λ (l : List ℕ). x ∷ filter (λ j. not (j == x)) l) (once-new y xs avoids.1)
    ∙ ap (λ (l : List ℕ). x ∷ l) (kept x y (once xs) avoids.0)

-- and one that stands there is left out
pub once-again : (y : ℕ) (xs : List ℕ) → In y xs → once (xs ++ (y ∷ [])) ≡ once xs
once-again y [] there = absurd there
once-again y (x ∷ xs) there = by (cases_In y xs) there (λ later. once-again y xs later)
  where
    by : In y xs ⊎ Avoids y xs → In y (x ∷ xs) → (In y xs → once (xs ++ (y ∷ [])) ≡ once xs)
        → once (x ∷ (xs ++ (y ∷ []))) ≡ once (x ∷ xs)
    by (inl later) here rest = ap (λ (l : List ℕ). x ∷ filter (λ j. not (j == x)) l) (rest later)
    by (inr none) (inr later) rest = absurd (not_in y xs none later)
    by (inr none) (inl same) rest =
        ap (λ (l : List ℕ). x ∷ filter (λ j. not (j == x)) l) (once-new y xs none)
        ∙ ap (λ (l : List ℕ). x ∷ l) (gone x y (once xs) same)
