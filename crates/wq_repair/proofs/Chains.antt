-- Chains that lead from one vertex to another.
use Rattle.std.proofs.Common.{◌≡◌, ℕ, List, [], ◌∷◌, ◌++◌, refl, sym, subst}
use Rattle.wq_items.specs.Chain.{IsChain, last_of}
use Rattle.wq_repair.specs.Near.{LeadsTo}

module _ (R : ℕ → ℕ → Type 0) where
  longer : (p z : ℕ) (vs : List ℕ) → IsChain R (p ∷ vs) → R (last_of p vs) z → IsChain R (p ∷ (vs ++ (z ∷ []))) × (last_of p (vs ++ (z ∷ [])) ≡ z)
  longer p z [] chain step = ((step, tt), refl)
  longer p z (w ∷ ws) chain step = let rest = longer w z ws chain.1 step in ((chain.0, rest.0), rest.1)

  pub LeadsTo-one : (p q : ℕ) → R p q → LeadsTo R p q
  LeadsTo-one p q step = record { others = []; chain = tt; step = step }

  pub LeadsTo-more : (p q z : ℕ) → LeadsTo R p q → R q z → LeadsTo R p z
  LeadsTo-more p q z leads step =
      let more = longer p q leads.others leads.chain leads.step in
      record { others = leads.others ++ (q ∷ []); chain = more.0; step = subst (λ (x : ℕ). R x z) (sym more.1) step }

  pub LeadsTo-first : (p q z : ℕ) → R p q → LeadsTo R q z → LeadsTo R p z
  LeadsTo-first p q z step leads = record { others = q ∷ leads.others; chain = (step, leads.chain); step = leads.step }
