-- Two vertices become one. This makes a circle exactly where one of them leads to the other. Belongs where chains and circles stand.
use Rattle.std.proofs.Common.{◌≡◌, ℕ, ◌+◌, ◌<◌, ◌≤◌, ◌⊎◌, inl, inr, Bool, true, false, List, [], ◌∷◌, refl, sym, ap, subst, ◌∙◌, arith}
use Rattle.std.specs.Prelude.{if◌then◌else◌, ◌==◌}
use Rattle.std.proofs.lemmas.Bool.{cases_Bool, false≢true, eqb-true, eq-eqb}
use Rattle.wq_items.specs.Chain.{IsChain, last_of, Circle}
use Rattle.wq_core.proofs.LaneCircles.{Circle-map}
use Rattle.wq_repair.specs.Joined.{become}

-- numbers that fall along each arc rule out circles
module _ (R : ℕ → ℕ → Type 0) (number : ℕ → ℕ) (falls : (v w : ℕ) → R v w → number w < number v) where
  chain_falls : (v : ℕ) (vs : List ℕ) → IsChain R (v ∷ vs) → number (last_of v vs) ≤ number v
  chain_falls v [] chain = omega arith
  chain_falls v (w ∷ ws) chain = omega (arith, falls v w chain.0, chain_falls w ws chain.1)

  pub no_circle-falls : ¬ Circle R
  no_circle-falls c = omega (arith, chain_falls c.first c.others c.chain, falls (last_of c.first c.others) c.first c.closes)

-- numbers as before for what is beyond u and v, then one for the two, and then numbers for all others
abbrev pub number_joined : (ℕ → Bool) → (ℕ → ℕ) → ℕ → ℕ → ℕ → ℕ
number_joined beyond number bound v p = if beyond p then number p else if p == v then bound else bound + 1 + number p

-- `beyond` says to what u and v lead; neither leads to the other
module _ (R : ℕ → ℕ → Type 0) (number : ℕ → ℕ) (bound : ℕ) (falls : (x y : ℕ) → R x y → number y < number x) (below : (x : ℕ) → number x < bound)
    (beyond : ℕ → Bool) (u v : ℕ) (not_u : beyond u ≡ false) (not_v : beyond v ≡ false)
    (from_u : (y : ℕ) → R u y → beyond y ≡ true) (from_v : (y : ℕ) → R v y → beyond y ≡ true) (on : (x y : ℕ) → beyond x ≡ true → R x y → beyond y ≡ true) where
  abbrev new : ℕ → ℕ
  new p = number_joined beyond number bound v p

  abbrev to : ℕ → ℕ
  to x = become u v x

  at_beyond : (p : ℕ) → beyond p ≡ true → new p ≡ number p
  at_beyond p is = ap (λ (b : Bool). if b then number p else if p == v then bound else bound + 1 + number p) is

  at_v : new v ≡ bound
  at_v =
      ap (λ (b : Bool). if b then number v else if v == v then bound else bound + 1 + number v) not_v
      ∙ ap (λ (b : Bool). if b then bound else bound + 1 + number v) (eq-eqb v v refl)

  at_other : (p : ℕ) → beyond p ≡ false → (p == v) ≡ false → new p ≡ bound + 1 + number p
  at_other p is not =
      ap (λ (b : Bool). if b then number p else if p == v then bound else bound + 1 + number p) is
      ∙ ap (λ (b : Bool). if b then bound else bound + 1 + number p) not

  to_u : to u ≡ v
  to_u = ap (λ (b : Bool). if b then v else u) (eq-eqb u u refl)

  to_other : (x : ℕ) → (x == u) ≡ false → to x ≡ x
  to_other x not = ap (λ (b : Bool). if b then v else x) not

  -- a vertex beyond u stays, as u isn't beyond itself
  to_beyond : (x : ℕ) → beyond x ≡ true → to x ≡ x
  to_beyond x is = elim (cases_Bool (x == u)) [
    | inl same ↦ absurd (false≢true (sym not_u ∙ ap beyond (sym (eqb-true x u same)) ∙ is))
    | inr not ↦ to_other x not
  ]

  new_beyond : (x : ℕ) → beyond x ≡ true → new (to x) ≡ number x
  new_beyond x is = ap new (to_beyond x is) ∙ at_beyond x is

  -- u and v have the number `bound`, and others a greater one
  new_others : (x : ℕ) → beyond x ≡ false → (((x ≡ u) ⊎ (x ≡ v)) × (new (to x) ≡ bound)) ⊎ (new (to x) ≡ bound + 1 + number x)
  new_others x not = elim (cases_Bool (x == u)) [
    | inl same ↦ let is : x ≡ u = eqb-true x u same in inl (inl is, ap (λ (y : ℕ). new (to y)) is ∙ ap new to_u ∙ at_v)
    | inr differs ↦ elim (cases_Bool (x == v)) [
      | inl same ↦ let is : x ≡ v = eqb-true x v same in inl (inr is, ap new (to_other x differs) ∙ ap new is ∙ at_v)
      | inr other ↦ inr (ap new (to_other x differs) ∙ at_other x not other)
    ]
  ]

  from_either : (x y : ℕ) → (x ≡ u) ⊎ (x ≡ v) → R x y → beyond y ≡ true
  from_either x y (inl is) arc = from_u y (subst (λ (z : ℕ). R z y) is arc)
  from_either x y (inr is) arc = from_v y (subst (λ (z : ℕ). R z y) is arc)

  -- an arc from a vertex that isn't beyond
  falls_from : (x y : ℕ) → beyond x ≡ false → R x y → new (to y) < new (to x)
  falls_from x y not arc = elim (cases_Bool (beyond y)) [
    | inl is ↦ elim (new_others x not) [
      | inl one ↦ omega (arith, new_beyond y is, one.1, below y)
      | inr other ↦ omega (arith, new_beyond y is, other, below y)
    ]
    | inr also ↦ elim (new_others x not) [
      | inl one ↦ absurd (false≢true (sym also ∙ from_either x y one.0 arc))
      | inr other ↦ elim (new_others y also) [
        | inl one ↦ omega (arith, one.1, other)
        | inr both ↦ omega (arith, both, other, falls x y arc)
      ]
    ]
  ]

  pub falls-joined : (x y : ℕ) → R x y → new (to y) < new (to x)
  falls-joined x y arc = elim (cases_Bool (beyond x)) [
    | inl is ↦ omega (arith, new_beyond x is, new_beyond y (on x y is arc), falls x y arc)
    | inr not ↦ falls_from x y not arc
  ]

-- a chain from one to the other goes round when they become one
module _ (R S : ℕ → ℕ → Type 0) (u v : ℕ) (keeps : (x y : ℕ) → R x y → S (become u v x) (become u v y)) where
  -- as Circle-map, of a chain that ends where it may begin
  pub Circle-closed : (first : ℕ) (others : List ℕ) (z : ℕ) → IsChain R (first ∷ others) → R (last_of first others) z → become u v z ≡ become u v first → Circle S
  Circle-closed first others z chain step same =
      Circle-map (λ (x y : ℕ). S (become u v x) (become u v y)) S (become u v) (λ x y arc. arc) (record {
        first = first;
        others = others;
        chain = some first others chain;
        closes = subst (λ (y : ℕ). S (become u v (last_of first others)) y) same (keeps (last_of first others) z step);
      })
    where
      some : (x : ℕ) (xs : List ℕ) → IsChain R (x ∷ xs) → IsChain (λ (x y : ℕ). S (become u v x) (become u v y)) (x ∷ xs)
      some x [] chain = tt
      some x (y ∷ ys) chain = (keeps x y chain.0, some y ys chain.1)
