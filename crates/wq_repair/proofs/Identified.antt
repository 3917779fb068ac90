-- Vertices that are identified: a circle stays one. Belongs beside Circle-map, which is the same for a function.
use Rattle.std.proofs.Common.{◌≡◌, ℕ, ◌⊎◌, inl, inr, List, [], ◌∷◌, refl, sym, subst}
use Rattle.wq_items.specs.Chain.{IsChain, last_of, Circle}

-- `Becomes v x`: vertex v becomes x, and nothing else where it is left or led to. Each step of the one relation is a step of the other,
-- unless there is a way out
module _ (R S : ℕ → ℕ → Type 0) (Becomes : ℕ → ℕ → Type 0) (Out : Type 0)
    (one : (v x y : ℕ) → Becomes v x → Becomes v y → x ≡ y)
    (keeps : (v w : ℕ) → R v w → ((x : ℕ) × (y : ℕ) × Becomes v x × Becomes w y × S x y) ⊎ Out) where
  -- a chain from v whose last vertex becomes z
  abbrev ChainTo : ℕ → ℕ → Type 0
  ChainTo v z = (x : ℕ) × (others : List ℕ) × Becomes v x × IsChain S (x ∷ others) × (last_of x others ≡ z)

  longer : (v w z : ℕ) → ((x : ℕ) × (y : ℕ) × Becomes v x × Becomes w y × S x y) → ChainTo w z → ChainTo v z
  longer v w z step rest =
      let same : step.1 ≡ rest.0 = one w step.1 rest.0 step.3 rest.2 in
      (step.0, rest.0 ∷ rest.1, step.2, (subst (λ (y : ℕ). S step.0 y) same step.4, rest.3), rest.4)

  chain_to : (v z : ℕ) (vs : List ℕ) → IsChain R (v ∷ vs) → Becomes (last_of v vs) z → ChainTo v z ⊎ Out
  chain_to v z [] chain last = inl (z, [], last, tt, refl)
  chain_to v z (w ∷ ws) chain last = elim (keeps v w chain.0) [
    | inr out ↦ inr out
    | inl step ↦ elim (chain_to w z ws chain.1 last) [
      | inr out ↦ inr out
      | inl rest ↦ inl (longer v w z step rest)
    ]
  ]

  closed : (c : Circle R) (z y : ℕ) → Becomes c.first y → S z y → ChainTo c.first z → Circle S
  closed c z y first closes chain =
      let same : y ≡ chain.0 = one c.first y chain.0 first chain.2 in
      record {
        first = chain.0;
        others = chain.1;
        chain = chain.3;
        closes = subst (λ (l : ℕ). S l chain.0) (sym chain.4) (subst (λ (x : ℕ). S z x) same closes);
      }

  pub Circle-identified : Circle R → Circle S ⊎ Out
  Circle-identified c = elim (keeps (last_of c.first c.others) c.first c.closes) [
    | inr out ↦ inr out
    | inl step ↦ elim (chain_to c.first step.0 c.others c.chain step.2) [
      | inr out ↦ inr out
      | inl chain ↦ inl (closed c step.0 step.1 step.3 step.4 chain)
    ]
  ]
