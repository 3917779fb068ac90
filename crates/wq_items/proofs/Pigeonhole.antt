-- A list of numbers below n that is longer than n has a number twice.
use Rattle.std.proofs.Common.{◌≡◌, ◌≢◌, ℕ, zero, suc, ◌-◌, ◌<◌, ◌⊎◌, inl, inr, cond, ltb, List, [], ◌∷◌, length, map, get_or, arith}
use Rattle.std.specs.List.{AllByRecursion, All}
use Rattle.std.proofs.lemmas.Bool.{cases_eq, cond_both, ltb-true, ltb-false}
use Rattle.std.proofs.lemmas.Bool.Decides.{nat_tests}
use Rattle.std.proofs.lemmas.List.{length-map}
use Rattle.std.proofs.lemmas.List.Elements.{recursion_from_All}
use Rattle.wq_items.specs.Chain.{Repeats}

-- x is an element
abbrev pub IsIn : ℕ → List ℕ → Type 0
IsIn x [] = ⊥
IsIn x (y ∷ ys) = (y ≡ x) ⊎ IsIn x ys

-- some element is there again further on
abbrev pub HasAgain : List ℕ → Type 0
HasAgain [] = ⊥
HasAgain (x ∷ xs) = IsIn x xs ⊎ HasAgain xs

-- no element is x
abbrev Avoids : ℕ → List ℕ → Type 0
Avoids x ys = AllByRecursion (λ y. y ≢ x) ys

-- the numbers above x move down by one, to close the gap that x leaves
abbrev close_gap : ℕ → ℕ → ℕ
close_gap x y = cond (ltb x y) (y - 1) y

cases_IsIn : (x : ℕ) (ys : List ℕ) → IsIn x ys ⊎ Avoids x ys
cases_IsIn x [] = inr tt
cases_IsIn x (y ∷ ys) = elim (cases_eq y x) [
  | inl same ↦ inl (inl same)
  | inr other ↦ elim (cases_IsIn x ys) [ inl later ↦ inl (inr later) | inr none ↦ inr (other, none) ]
]

close_gap-below : (x y n : ℕ) → x < suc n → y < suc n → y ≢ x → close_gap x y < n
close_gap-below x y n x_below y_below other = cond_both (ltb x y) (y - 1) y (λ z. z < n) (λ e. omega (arith, ltb-true x y e)) (λ e. omega (arith, ltb-false x y e))

close_gap-same : (x y z : ℕ) → y ≢ x → z ≢ x → close_gap x y ≡ close_gap x z → y ≡ z
close_gap-same x y z y_other z_other same = grind (arith, nat_tests)

close_gap-all : (x n : ℕ) (ys : List ℕ) → x < suc n → AllByRecursion (λ y. y < suc n) ys → Avoids x ys → AllByRecursion (λ y. y < n) (map (close_gap x) ys)
close_gap-all x n [] x_below below none = tt
close_gap-all x n (y ∷ ys) x_below below none = (close_gap-below x y n x_below below.0 none.0, close_gap-all x n ys x_below below.1 none.1)

IsIn-close_gap : (x y : ℕ) (ys : List ℕ) → y ≢ x → Avoids x ys → IsIn (close_gap x y) (map (close_gap x) ys) → IsIn y ys
IsIn-close_gap x y [] other none found = found
IsIn-close_gap x y (z ∷ zs) other none (inl same) = inl (close_gap-same x z y none.0 other same)
IsIn-close_gap x y (z ∷ zs) other none (inr later) = inr (IsIn-close_gap x y zs other none.1 later)

HasAgain-close_gap : (x : ℕ) (ys : List ℕ) → Avoids x ys → HasAgain (map (close_gap x) ys) → HasAgain ys
HasAgain-close_gap x [] none again = again
HasAgain-close_gap x (y ∷ ys) none (inl found) = inl (IsIn-close_gap x y ys none.0 none.1 found)
HasAgain-close_gap x (y ∷ ys) none (inr later) = inr (HasAgain-close_gap x ys none.1 later)

-- more elements than numbers below n
pub has_again : (n : ℕ) (xs : List ℕ) → AllByRecursion (λ x. x < n) xs → n < length xs → HasAgain xs
has_again n [] below long = omega arith
has_again zero (x ∷ xs) below long = absurd (let none : x < 0 = below.0 in omega arith)
has_again (suc n) (x ∷ xs) below long = elim (cases_IsIn x xs) [
  | inl found ↦ inl found
  | inr none ↦ inr (HasAgain-close_gap x xs none (has_again n (map (close_gap x) xs) (close_gap-all x n xs below.0 below.1 none) (rw length-map (omega arith))))
]

-- where an element is
place_of : (x : ℕ) (ys : List ℕ) → IsIn x ys → (k : ℕ) × (k < length ys) × (x ≡ get_or ys k 0)
place_of x [] found = absurd found
place_of x (y ∷ ys) (inl same) = (0, omega arith, cc)
place_of x (y ∷ ys) (inr later) = let at = place_of x ys later in (suc at.0, omega arith, at.2)

Repeats-from_again : (xs : List ℕ) → HasAgain xs → Repeats xs
Repeats-from_again [] again = absurd again
Repeats-from_again (x ∷ xs) (inl found) = let at = place_of x xs found in (0, suc at.0, omega arith, omega arith, at.2)
Repeats-from_again (x ∷ xs) (inr later) = let at = Repeats-from_again xs later in (suc at.0, suc at.1, omega arith, omega arith, at.4)

-- two places hold the same number if there are more places than numbers
pub repeats_from_length : (n : ℕ) (xs : List ℕ) → All (λ x. x < n) xs → n < length xs → Repeats xs
repeats_from_length n xs below long = Repeats-from_again xs (has_again n xs (recursion_from_All (λ x. x < n) xs below) long)
