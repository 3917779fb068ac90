-- A chain of the start needs as many new workqueues as it has new lanes: with fewer, some lane comes again.
use Rattle.std.proofs.Common.{◌≡◌, ℕ, suc, ◌+◌, ◌-◌, ◌<◌, ◌≤◌, inl, inr, cond, ltb, List, []}
use Rattle.std.proofs.Common.{◌∷◌, length, map, refl, sym, ap, subst, ◌∙◌, arith}
use Rattle.std.specs.List.{AllByRecursion}
use Rattle.std.proofs.lemmas.Bool.{cases_lt, lt-ltb, le-ltb, cond-true, cond-false}
use Rattle.wq_items.specs.Chain.{IsChain, Circle, last_of}
use Rattle.wq_items.proofs.Pigeonhole.{IsIn, HasAgain, has_again}

-- the numbers from `least` on, less `least`
abbrev pub rest_from : ℕ → List ℕ → List ℕ
rest_from least [] = []
rest_from least (x ∷ xs) = cond (ltb x least) (rest_from least xs) ((x - least) ∷ rest_from least xs)

-- how many numbers are from `least` on
abbrev pub count_from : ℕ → List ℕ → ℕ
count_from least [] = 0
count_from least (x ∷ xs) = cond (ltb x least) (count_from least xs) (1 + count_from least xs)

module _ (least : ℕ) where
  pub length-rest_from : (xs : List ℕ) → length (rest_from least xs) ≡ count_from least xs
  length-rest_from [] = refl
  length-rest_from (x ∷ xs) = elim (cases_lt x least) [
    | inl below ↦
        ap (λ (ys : List ℕ). length ys) (cond-true (ltb x least) (rest_from least xs) ((x - least) ∷ rest_from least xs)
        (lt-ltb x least below))
        ∙ length-rest_from xs
        ∙ sym (cond-true (ltb x least) (count_from least xs) (1 + count_from least xs) (lt-ltb x least below))
    | inr from ↦
        ap (λ (ys : List ℕ). length ys) (cond-false (ltb x least) (rest_from least xs)
        ((x - least) ∷ rest_from least xs) (le-ltb x least from))
        ∙ (let same : suc (length (rest_from least xs)) ≡ 1 + count_from least
        xs = omega (arith, length-rest_from xs) in same)
        ∙ sym (cond-false (ltb x least) (count_from least xs) (1 + count_from least xs) (le-ltb x least from))
  ]

  rest_from-below : (n : ℕ) (xs : List ℕ) → AllByRecursion (λ x. x < least + n) xs
      → AllByRecursion (λ x. x < n) (rest_from least xs)
  rest_from-below n [] below = tt
  rest_from-below n (x ∷ xs) below = elim (cases_lt x least) [
    | inl low ↦ subst (AllByRecursion (λ y. y < n)) (sym (cond-true (ltb x least) (rest_from least xs)
        ((x - least) ∷ rest_from least xs) (lt-ltb x least low))) (rest_from-below n xs below.1)
    | inr from ↦
        let within : x < least + n = below.0 in
        subst (AllByRecursion (λ y. y < n)) (sym (cond-false (ltb x least) (rest_from least xs)
        ((x - least) ∷ rest_from least xs) (le-ltb x least from))) (omega arith, rest_from-below n xs below.1)
  ]

  IsIn-rest_from : (y : ℕ) (xs : List ℕ) → least ≤ y → IsIn (y - least) (rest_from least xs) → IsIn y xs
  IsIn-rest_from y [] from found = found
  IsIn-rest_from y (x ∷ xs) from found = elim (cases_lt x least) [
    | inl low ↦ inr (IsIn-rest_from y xs from (subst (IsIn (y - least))
        (cond-true (ltb x least) (rest_from least xs) ((x - least) ∷ rest_from least xs) (lt-ltb x least low)) found))
    | inr high ↦ by high (IsIn-rest_from y xs from) (subst (IsIn (y - least))
        (cond-false (ltb x least) (rest_from least xs) ((x - least) ∷ rest_from least xs) (le-ltb x least high)) found)
  ]
    where
      by : least ≤ x → (IsIn (y - least) (rest_from least xs) → IsIn y xs)
          → IsIn (y - least) ((x - least) ∷ rest_from least xs) → IsIn y (x ∷ xs)
      by high rest (inl same) = inl (omega (arith, high, from, same))
      by high rest (inr later) = inr (rest later)

  HasAgain-rest_from : (xs : List ℕ) → HasAgain (rest_from least xs) → HasAgain xs
  HasAgain-rest_from [] again = again
  HasAgain-rest_from (x ∷ xs) again = elim (cases_lt x least) [
    | inl low ↦ inr (HasAgain-rest_from xs (subst HasAgain (cond-true (ltb x least) (rest_from least xs)
        ((x - least) ∷ rest_from least xs) (lt-ltb x least low)) again))
    | inr high ↦ by high (HasAgain-rest_from xs) (subst HasAgain
        (cond-false (ltb x least) (rest_from least xs) ((x - least) ∷ rest_from least xs) (le-ltb x least high)) again)
  ]
    where
      by : least ≤ x → (HasAgain (rest_from least xs) → HasAgain xs)
          → HasAgain ((x - least) ∷ rest_from least xs) → HasAgain (x ∷ xs)
      by high rest (inl found) = inl (IsIn-rest_from x xs high found)
      by high rest (inr later) = inr (rest later)

  -- more numbers from `least` on than there are below least + n
  pub again_from : (n : ℕ) (xs : List ℕ) → AllByRecursion (λ x. x < least + n) xs → n < count_from least xs
      → HasAgain xs
  again_from n xs below many = HasAgain-rest_from xs (has_again n (rest_from least xs) (rest_from-below n xs below)
      (omega (arith, length-rest_from xs, many)))

-- a chain in which a vertex comes again runs in a circle
module _ (R : ℕ → ℕ → Type 0) where
  way_to : (x v : ℕ) (vs : List ℕ) → IsChain R (v ∷ vs) → IsIn x vs → (way : List ℕ) × IsChain R (v ∷ way)
      × R (last_of v way) x
  way_to x v [] chain found = absurd found
  way_to x v (w ∷ ws) chain (inl same) = ([], tt, subst (λ u. R v u) same chain.0)
  way_to x v (w ∷ ws) chain (inr later) = let rest = way_to x w ws chain.1 later in
      (w ∷ rest.0, (chain.0, rest.1), rest.2)

  tail_chain : (v : ℕ) (vs : List ℕ) → IsChain R (v ∷ vs) → IsChain R vs
  tail_chain v [] chain = tt
  tail_chain v (w ∷ ws) chain = chain.1

  pub circle_from_again : (xs : List ℕ) → IsChain R xs → HasAgain xs → Circle R
  circle_from_again [] chain again = absurd again
  circle_from_again (x ∷ xs) chain (inl found) = let way = way_to x x xs chain found in
      record { first = x; others = way.0; chain = way.1; closes = way.2 }
  circle_from_again (x ∷ xs) chain (inr later) = circle_from_again xs (tail_chain x xs chain) later

-- a map that keeps what waits for what keeps chains
module _ (R S : ℕ → ℕ → Type 0) (f : ℕ → ℕ) (keeps : (v w : ℕ) → R v w → S (f v) (f w)) where
  pub IsChain-map : (vs : List ℕ) → IsChain R vs → IsChain S (map f vs)
  IsChain-map [] chain = tt
  IsChain-map (v ∷ []) chain = tt
  IsChain-map (v ∷ w ∷ ws) chain = (keeps v w chain.0, IsChain-map (w ∷ ws) chain.1)
