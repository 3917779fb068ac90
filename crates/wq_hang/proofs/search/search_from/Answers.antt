use Rattle.std.proofs.Common.{ℕ, List, length, replicate, sym, ap, subst, ◌∙◌, arith}
use Rattle.std.specs.Prelude.{slice_index}
use Rattle.wq_hang.specs.Search.{IsSearched}
use Rattle.wq_hang.proofs.Searching.{
  IsNew,
  IsGoing-first,
  IsGoing-next,
  work-less,
  taken_was,
  IsSearched-all,
}
use Rattle.wq_hang.proofs.search.search_from.Goals as goal

pub loop-item-init : goal.loop-item-init
loop-item-init g c =
    let w = c.args.waits.now in
    let limit = c.args.limit in
    let new : IsNew w limit c.begin.new.self = record {
      costs = c.in_ok-begin.ensures.costs ∙ ap (λ (n : ℕ). replicate n limit) c.items.ensures.items;
      lane_costs = c.in_ok-begin.ensures.lane_costs ∙ ap (λ (n : ℕ). replicate n limit) c.lanes.ensures.lanes;
      by_each = c.in_ok-begin.ensures.by ∙ c.items.ensures.items;
      near = c.in_ok-begin.ensures.near;
      far = c.in_ok-begin.ensures.far;
      near_unsure = c.in_ok-begin.ensures.near_unsure;
      far_unsure = c.in_ok-begin.ensures.far_unsure;
    } in
    IsGoing-first w c.args.bounds.now c.args.first limit c.items.ensures.wiring c.args.on.now c.requires.on
    c.begin.new.self c.expand.new.self new c.requires.rescuer c.in_ok-expand.ensures

pub cost-cost-requires : goal.cost-cost-requires
cost-cost-requires g c =
    let w = c.args.waits.now in
    let s = c.loop-item.search in
    let was = taken_was w c.args.bounds.now c.args.first c.args.limit c.items.ensures.wiring c.args.on.now c.requires.on
    s c.take.new.self c.in-Some.item c.in-Some.ensures.some in
    let item = (c.loop-item.invariant.reach.todo c.in-Some.item was).0 in
    omega (
      arith,
      item,
      c.loop-item.invariant.reach.one_each,
      ap (λ (l : List ℕ). length l) c.in-Some.ensures.some.costs,
    )

pub expand-requires-in-Some-clause-one_each : goal.expand-requires-in-Some-clause-one_each
expand-requires-in-Some-clause-one_each g c = ap (λ (l : List ℕ). length l) c.in-Some.ensures.some.costs
    ∙ c.loop-item.invariant.reach.one_each

pub expand-requires-in-Some-clause-item : goal.expand-requires-in-Some-clause-item
expand-requires-in-Some-clause-item g c =
    let w = c.args.waits.now in
    let s = c.loop-item.search in
    let was = taken_was w c.args.bounds.now c.args.first c.args.limit c.items.ensures.wiring c.args.on.now c.requires.on
    s c.take.new.self c.in-Some.item c.in-Some.ensures.some in
    (c.loop-item.invariant.reach.todo c.in-Some.item was).0

pub loop-item-smaller : goal.loop-item-smaller
loop-item-smaller g c =
    work-less c.args.waits.now c.args.bounds.now c.args.first c.args.limit c.items.ensures.wiring c.args.on.now
    c.requires.on c.loop-item.search c.take.new.self c.expand-in-Some.new.self c.in-Some.item c.cost-cost.result
    c.loop-item.invariant c.in-Some.ensures.some c.cost-cost.ensures c.in_ok-expand-2.ensures

pub loop-item-preserved : goal.loop-item-preserved
loop-item-preserved g c =
    IsGoing-next c.args.waits.now c.args.bounds.now c.args.first c.args.limit c.items.ensures.wiring c.args.on.now
    c.requires.on c.loop-item.search c.take.new.self c.expand-in-Some.new.self c.in-Some.item c.cost-cost.result
    c.loop-item.invariant c.in-Some.ensures.some c.cost-cost.ensures c.in_ok-expand-2.ensures

pub returns : goal.returns
returns g c =
    let w = c.args.waits.now in
    let all = IsSearched-all w c.args.bounds.now c.args.first c.args.limit c.items.ensures.wiring c.args.on.now
    c.requires.on
    c.loop-item.search c.loop-item.invariant (omega (
      arith,
      c.in_default.ensures.near,
      c.in_default.ensures.far,
      c.in_default.ensures.near_unsure,
      c.in_default.ensures.far_unsure,
    )) c.requires.bounds c.requires.first c.requires.rescuer in
    subst (IsSearched w c.args.first c.args.limit) (sym c.in_default.ensures.none) all
