-- Whether something is in a list or below a number.
use Rattle.std.proofs.Common.{◌≡◌, ℕ, zero, suc, ◌<◌, ◌≤◌, ◌⊎◌, inl, inr, List, [], ◌∷◌, refl, subst, arith}
use Rattle.std.specs.List.{All, Any}
use Rattle.std.proofs.lemmas.Bool.{cases_lt}
use Rattle.std.proofs.lemmas.List.Elements.{All-head, All-tail, All-cons, All-nil}

-- it holds, or it doesn't
abbrev pub Decided : Type 0 → Type 0
Decided P = P ⊎ (¬ P)

pub both : {P Q : Type 0} → Decided P → Decided Q → Decided (P × Q)
both (inl p) (inl q) = inl (p, q)
both (inl p) (inr no_q) = inr (λ h. no_q h.1)
both (inr no_p) q = inr (λ h. no_p h.0)

pub one_of : {P Q : Type 0} → Decided P → Decided Q → Decided (P ⊎ Q)
one_of (inl p) q = inl (inl p)
one_of (inr no_p) (inl q) = inl (inr q)
one_of (inr no_p) (inr no_q) = inr (λ h. elim h [ inl p ↦ no_p p | inr q ↦ no_q q ])

pub not_so : {P : Type 0} → Decided P → Decided (¬ P)
not_so (inl p) = inr (λ h. h p)
not_so (inr no_p) = inl no_p

-- what is equivalent to what is decided
pub alike : {P Q : Type 0} → (P → Q) → (Q → P) → Decided P → Decided Q
alike to from (inl p) = inl (to p)
alike to from (inr no_p) = inr (λ q. no_p (from q))

pub cases_below : (m n : ℕ) → Decided (m < n)
cases_below m n = elim (cases_lt m n) [ inl less ↦ inl less | inr not_less ↦ inr (λ h. absurd (omega (arith, h, not_less))) ]

pub cases_most : (m n : ℕ) → Decided (m ≤ n)
cases_most m n = elim (cases_lt n m) [ inl less ↦ inr (λ h. absurd (omega (arith, h, less))) | inr not_less ↦ inl (omega (arith, not_less)) ]

module _ {X : Type 0} (P : X → Type 0) (decide : (x : X) → Decided (P x)) where
  Any-head : (x : X) (xs : List X) → P x → Any P (x ∷ xs)
  Any-head x xs p = (0, x, omega arith, refl, p)

  Any-tail : (x : X) (xs : List X) → Any P xs → Any P (x ∷ xs)
  Any-tail x xs h = (suc h.0, h.1, omega (arith, h.2), h.3, h.4)

  Any-split : (x : X) (xs : List X) → (¬ P x) → (¬ Any P xs) → ¬ Any P (x ∷ xs)
  Any-split x xs none no_others (zero, y, within, is, p) = none (subst P (sym_of is) p)
    where
      sym_of : x ≡ y → y ≡ x
      sym_of e = cc
  Any-split x xs none no_others (suc k, y, within, is, p) = no_others (k, y, omega (arith, within), is, p)

  pub cases_Any : (xs : List X) → Decided (Any P xs)
  cases_Any [] = inr (λ h. absurd (omega (arith, h.2)))
  cases_Any (x ∷ xs) = elim (decide x) [
    | inl p ↦ inl (Any-head x xs p)
    | inr none ↦ elim (cases_Any xs) [ inl later ↦ inl (Any-tail x xs later) | inr no_others ↦ inr (Any-split x xs none no_others) ]
  ]

  pub cases_All : (xs : List X) → Decided (All P xs)
  cases_All [] = inl (All-nil P)
  cases_All (x ∷ xs) = elim (decide x) [
    | inl p ↦ elim (cases_All xs) [ inl others ↦ inl (All-cons P x xs p others) | inr not_all ↦ inr (λ h. not_all (All-tail P x xs h)) ]
    | inr fails ↦ inr (λ h. fails (All-head P x xs h))
  ]

module _ (P : ℕ → Type 0) (decide : (k : ℕ) → Decided (P k)) where
  -- what holds below n and for n holds below n + 1
  one_more : (n : ℕ) → ((k : ℕ) → k < n → P k) → P n → (k : ℕ) → k < suc n → P k
  one_more n lower here k less = elim (cases_lt k n) [
    | inl lower_one ↦ lower k lower_one
    | inr past ↦ (let same : n ≡ k = omega arith in subst P same here)
  ]

  -- each number below n, or the first that it doesn't hold for
  pub first_below : (n : ℕ) → ((k : ℕ) → k < n → P k) ⊎ ((m : ℕ) × (m < n) × (¬ P m) × ((k : ℕ) → k < m → P k))
  first_below zero = inl (λ k less. absurd (omega arith))
  first_below (suc n) = elim (first_below n) [
    | inr first ↦ inr (first.0, omega (arith, first.1), first.2, first.3)
    | inl lower ↦ elim (decide n) [ inl here ↦ inl (one_more n lower here) | inr fails ↦ inr (n, omega arith, fails, lower) ]
  ]

  pub cases_each_below : (n : ℕ) → Decided ((k : ℕ) → k < n → P k)
  cases_each_below n = elim (first_below n) [ inl each ↦ inl each | inr first ↦ inr (λ h. first.2 (h first.0 first.1)) ]

  -- some number below n
  pub cases_some_below : (n : ℕ) → Decided ((k : ℕ) × (k < n) × P k)
  cases_some_below zero = inr (λ h. absurd (omega (arith, h.1)))
  cases_some_below (suc n) = elim (cases_some_below n) [
    | inl lower ↦ inl (lower.0, omega (arith, lower.1), lower.2)
    | inr none ↦ elim (decide n) [ inl here ↦ inl (n, omega arith, here) | inr fails ↦ inr (λ h. no_other h fails none) ]
  ]
    where
      no_other : (k : ℕ) × (k < suc n) × P k → (¬ P n) → (¬ ((k : ℕ) × (k < n) × P k)) → ⊥
      no_other h fails none = elim (cases_lt h.0 n) [
        | inl lower ↦ none (h.0, lower, h.2)
        | inr past ↦ (let same : h.0 ≡ n = omega (arith, past, h.1) in fails (subst P same h.2))
      ]
