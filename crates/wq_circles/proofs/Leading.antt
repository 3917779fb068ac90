-- Laws of leading, for any relation.
use Rattle.std.proofs.Common.{◌≡◌, ◌≢◌, ℕ, ◌≤◌, inl, inr, List, [], ◌∷◌, ◌++◌, refl, sym, subst, ap, ◌∙◌, arith}
use Rattle.wq_items.specs.Chain.{IsChain, last_of}
use Rattle.wq_circles.specs.Leading.{Leads, AreTogether, IsLowest}

module _ (R : ℕ → ℕ → Type 0) where
  chain-append : (v : ℕ) (vs ws : List ℕ) → IsChain R (v ∷ vs) → IsChain R (last_of v vs ∷ ws) → IsChain R (v ∷ (vs ++ ws))
  chain-append v [] ws one two = two
  chain-append v (x ∷ xs) ws one two = (one.0, chain-append x xs ws one.1 two)

  last_of-append : (v : ℕ) (vs ws : List ℕ) → last_of v (vs ++ ws) ≡ last_of (last_of v vs) ws
  last_of-append v [] ws = refl
  last_of-append v (x ∷ xs) ws = last_of-append x xs ws

  append-some : (vs ws : List ℕ) → vs ≢ [] → vs ++ ws ≢ []
  append-some [] ws some = absurd (some refl)
  append-some (x ∷ xs) ws some = λ same. (let bad : x ∷ (xs ++ ws) ≡ [] = same in absurd (cc))

  -- one arc leads
  pub Leads-arc : (v w : ℕ) → R v w → Leads R v w
  Leads-arc v w arc = record { others = w ∷ []; some = λ same. (let bad : w ∷ [] ≡ [] = same in cc); chain = (arc, tt); ends = refl }

  pub Leads-trans : (u v w : ℕ) → Leads R u v → Leads R v w → Leads R u w
  Leads-trans u v w one two = record {
    others = one.others ++ two.others;
    some = append-some one.others two.others one.some;
    chain = chain-append u one.others two.others one.chain (subst (λ (x : ℕ). IsChain R (x ∷ two.others)) (sym one.ends) two.chain);
    ends = last_of-append u one.others two.others ∙ ap (λ (x : ℕ). last_of x two.others) one.ends ∙ two.ends;
  }

  -- what is closed under the arcs is closed under leading
  pub closed-chain : (P : ℕ → Type 0) → ((x y : ℕ) → P x → R x y → P y) → (v : ℕ) (vs : List ℕ) → IsChain R (v ∷ vs) → P v → P (last_of v vs)
  closed-chain P closed v [] chain at = at
  closed-chain P closed v (x ∷ xs) chain at = closed-chain P closed x xs chain.1 (closed v x at chain.0)

  pub Leads-closed : (P : ℕ → Type 0) → ((x y : ℕ) → P x → R x y → P y) → (v w : ℕ) → Leads R v w → P v → P w
  Leads-closed P closed v w leads at = subst P leads.ends (closed-chain P closed v leads.others leads.chain at)

  -- ---- being together

  pub AreTogether-sym : (v w : ℕ) → AreTogether R v w → AreTogether R w v
  AreTogether-sym v w (inl same) = inl (sym same)
  AreTogether-sym v w (inr both) = inr (both.1, both.0)

  pub AreTogether-trans : (u v w : ℕ) → AreTogether R u v → AreTogether R v w → AreTogether R u w
  AreTogether-trans u v w (inl same) two = subst (λ (x : ℕ). AreTogether R x w) (sym same) two
  AreTogether-trans u v w (inr one) (inl same) = subst (λ (x : ℕ). AreTogether R u x) same (inr one)
  AreTogether-trans u v w (inr one) (inr two) = inr (Leads-trans u v w one.0 two.0, Leads-trans w v u two.1 one.1)

  -- of two that are together, the lowest is the same
  pub IsLowest-same : (v w c d : ℕ) → AreTogether R v w → IsLowest R v c → IsLowest R w d → c ≡ d
  IsLowest-same v w c d together one two =
      let c_least : c ≤ d = one.least d (AreTogether-trans v w d together two.together) in
      let d_least : d ≤ c = two.least c (AreTogether-trans w v c (AreTogether-sym v w together) one.together) in
      omega (arith, c_least, d_least)

  -- if the lowest is the same, they are together
  pub AreTogether-lowest : (v w c d : ℕ) → c ≡ d → IsLowest R v c → IsLowest R w d → AreTogether R v w
  AreTogether-lowest v w c d same one two =
      AreTogether-trans v c w one.together (subst (λ (x : ℕ). AreTogether R x w) (sym same) (AreTogether-sym w d two.together))
