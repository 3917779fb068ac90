use Rattle.std.proofs.Common.{◌≡◌, ◌≢◌, inl, inr, ℕ, take, refl, sym, ap, ◌∙◌}
use Rattle.std.specs.Prelude.{Contains}
use Rattle.std.proofs.lemmas.Bool.{eqb-true, eqb-false}
use Rattle.wq_core.specs.Wiring.{lane_of}
use Rattle.wq_hang.proofs.Taken.{contains_more, contains_all}
use Rattle.wq_hang.proofs.least_for.one_held_by.Goals as goal

pub loop-item-preserved : goal.loop-item-preserved
loop-item-preserved g c = λ i there same.
    let k : ℕ = c.loop-item.item-index in
    let x : ℕ = c.item-item.result in
    elim (contains_more c.args.named.now k x i c.loop-item-test.true there) [
      | inl before ↦ c.loop-item.invariant i before same
      | inr is ↦ eqb-false x c.args.first (sym c.eq.ensures ∙ c.if-eq.false) (c.item-item.is ∙ is ∙ same)
    ]

pub returns-then-eq-2-clause-some : goal.returns-then-eq-2-clause-some
returns-then-eq-2-clause-some g c =
    let named = c.args.named.now in
    let first : ℕ = c.args.first in
    let x : ℕ = c.item-item-in-loop-item-2.result in
    let there : Contains named x = (
      c.loop-item-2.item-index,
      c.loop-item-2-test.true,
      sym
          c.item-item-in-loop-item-2.is,
    ) in (
      there,
      sym c.lane_of.ensures.lane
          ∙ eqb-true c.lane_of.result c.lane_of-lane.result (sym c.eq-in-loop-item-2.ensures ∙ c.if-eq-2.true)
          ∙ c.lane_of-lane.ensures.lane,
      λ in_named. absurd (c.loop-item.invariant first
          (contains_all named c.loop-item.item-index first c.loop-item-test.false in_named) refl),
    )

pub returns-clause-none : goal.returns-clause-none
returns-clause-none g c = λ i there same.
    c.loop-item-2.invariant i (contains_all c.args.named.now c.loop-item-2.item-index i c.loop-item-2-test.false there)
    (same ∙ sym c.lane_of-lane.ensures.lane)
