use Rattle.std.proofs.Common.{◌≡◌, ◌≤◌, true, false, List, length, refl, sym, subst, ◌∙◌, arith}
use Rattle.std.specs.List.{All}
use Rattle.std.proofs.lemmas.List.{take_all}
use Rattle.std.proofs.lemmas.List.Elements.{All-more}
use Rattle.wq_core.specs.State.{IsBusy}
use Rattle.wq_core.specs.Held.{HeldLane}
use Rattle.wq_core.proofs.lanes.all_idle.Goals as goal

pub returns-then-not-is_idle : goal.returns-then-not-is_idle
returns-then-not-is_idle g c = (
  (λ h. absurd cc),
  (λ all.
      let free : ¬ IsBusy c.lane-item.result.lane = subst (λ (h : HeldLane). ¬ IsBusy h.lane) (sym c.lane-item.is) (all c.loop-lane.lane-index c.lane-item.result c.loop-lane-test.true) in
      absurd (let never : false ≡ true = sym c.if-not-is_idle.true ∙ c.is_idle.ensures.1 free in cc)),
)

pub loop-lane-preserved : goal.loop-lane-preserved
loop-lane-preserved g c =
    All-more (λ (h : HeldLane). ¬ IsBusy h.lane) c.args.lanes.now c.loop-lane.lane-index c.lane-item.result c.loop-lane-test.true c.loop-lane.invariant
    (subst (λ (h : HeldLane). ¬ IsBusy h.lane) c.lane-item.is (c.is_idle.ensures.0 c.if-not-is_idle.false))

pub returns : goal.returns
returns g c =
    let all : length c.args.lanes.now ≤ c.loop-lane.lane-index = omega (arith, c.loop-lane-test.false) in
    ((λ h. subst (λ (hs : List HeldLane). All (λ (h : HeldLane). ¬ IsBusy h.lane) hs) (take_all c.loop-lane.lane-index c.args.lanes.now all) c.loop-lane.invariant), (λ h. refl))
