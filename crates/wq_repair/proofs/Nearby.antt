-- Which vertices lead to one another, as it is told bit by bit.
use Rattle.std.proofs.Common.{ℕ, inl, inr, List, sym, subst, ◌∙◌}
use Rattle.std.specs.Prelude.{Option}
use Rattle.wq_graph.specs.declared.arc.WaitArc.{WaitArc}
use Rattle.wq_repair.specs.Together.{ArcBetween}
use Rattle.wq_repair.specs.Near.{GainsAt, AreLedTo, AreLeading, AreOwn, IsAsked, IsTold, LeadsTo, LeadEitherWay}
use Rattle.wq_repair.proofs.Chains.{LeadsTo-one, LeadsTo-more, LeadsTo-first}

module _ (graph : List (List WaitArc)) (at : List ℕ) where
  abbrev Leads : ℕ → ℕ → Type 0
  Leads p q = LeadsTo (ArcBetween graph at) p q

  module _ (own words new : List ℕ) (v w : ℕ) (step : ArcBetween graph at v w) where
    leads : Leads v w
    leads = LeadsTo-one (ArcBetween graph at) v w step

    -- v waits for w
    pub AreLedTo-more : AreLedTo graph at own words → GainsAt words own v w new → AreLedTo graph at own new
    AreLedTo-more are gains p k has = elim (gains p k has) [
      | inl was ↦ are p k was
      | inr (same, inl more) ↦
          let (q, bit, further) = are w k more in
          (q, bit, subst (λ x. Leads x q) (sym same) (LeadsTo-first (ArcBetween graph at) v w q step further))
      | inr (same, inr bit) ↦ (w, bit, subst (λ x. Leads x w) (sym same) leads)
    ]

    pub AreLeading-more : AreLeading graph at own words → GainsAt words own w v new → AreLeading graph at own new
    AreLeading-more are gains p k has = elim (gains p k has) [
      | inl was ↦ are p k was
      | inr (same, inl more) ↦
          let (q, bit, further) = are v k more in
          (q, bit, subst (Leads q) (sym same) (LeadsTo-more (ArcBetween graph at) q v w further step))
      | inr (same, inr bit) ↦ (v, bit, subst (Leads v) (sym same) leads)
    ]

  -- what the words tell of vertices and their homes
  module _ (asked : List (Option ℕ)) (some own words : List ℕ) (are_own : AreOwn some own) (v : ℕ)
      (told : IsTold asked some words v) where
    pub led_to-told : AreLedTo graph at own words → (p : ℕ) × IsAsked asked v p × LeadEitherWay graph at v p
    led_to-told are =
        let (p, home, (k, has, is)) = told in
        let (q, bit, further) = are v k has in
        (p, home, inl (subst (Leads v) (sym (are_own q k bit) ∙ is) further))

    pub leading-told : AreLeading graph at own words → (p : ℕ) × IsAsked asked v p × LeadEitherWay graph at v p
    leading-told are =
        let (p, home, (k, has, is)) = told in
        let (q, bit, further) = are v k has in
        (p, home, inr (subst (λ x. Leads x v) (sym (are_own q k bit) ∙ is) further))
