use Rattle.std.specs.Prelude.{slice_index}
use Rattle.std.proofs.Common.{List, ℕ, length, ap, sym, subst, ◌∙◌, arith}
use Rattle.wq_hang.specs.declared.hop.Hop.{Hop}
use Rattle.wq_hang.specs.WaysFor.{AreWays}
use Rattle.wq_hang.proofs.WaysFound.{AreWaysSoFar-next, AreWays-all, todo_below}
use Rattle.wq_hang.proofs.ways.search_ways.Goals as goal

pub expand-requires-clause-item : goal.expand-requires-clause-item
expand-requires-clause-item g c =
    (todo_below c.args.waits.now c.args.starts.now c.args.limit c.items-items.ensures.wiring c.args.on.now c.requires.on
    c.loop-item.search c.take.new.self c.in-Some.item c.loop-item.invariant c.in-Some.ensures.some).0

pub expand-requires-clause-one_each : goal.expand-requires-clause-one_each
expand-requires-clause-one_each g c =
    ap (λ (l : List ℕ). length l) c.in-Some.ensures.some.costs ∙ c.loop-item.invariant.reach.one_each

pub expand-requires-clause-by_each : goal.expand-requires-clause-by_each
expand-requires-clause-by_each g c =
    ap (λ (l : List Hop). length l) c.in-Some.ensures.some.by ∙ c.loop-item.invariant.reach.by_each

pub expand-requires-clause-lanes_each : goal.expand-requires-clause-lanes_each
expand-requires-clause-lanes_each g c =
    ap (λ (l : List ℕ). length l) c.in-Some.ensures.some.lane_costs ∙ c.loop-item.invariant.reach.lanes_each

pub expand-requires-clause-low : goal.expand-requires-clause-low
expand-requires-clause-low g c =
    let todo = todo_below c.args.waits.now c.args.starts.now c.args.limit c.items-items.ensures.wiring c.args.on.now
    c.requires.on c.loop-item.search c.take.new.self c.in-Some.item c.loop-item.invariant c.in-Some.ensures.some in
    omega (
      arith,
      todo.1,
      c.requires.low.1,
      ap (λ (l : List ℕ). slice_index l c.in-Some.item) c.in-Some.ensures.some.costs,
    )

pub loop-item-smaller : goal.loop-item-smaller
loop-item-smaller g c =
    (AreWaysSoFar-next c.args.waits.now c.args.starts.now c.args.limit c.items-items.ensures.wiring c.args.on.now
    c.requires.on c.loop-item.search c.take.new.self c.expand.new.search c.in-Some.item c.loop-item.invariant
    c.in-Some.ensures.some c.in_ok-expand.ensures).1

pub loop-item-preserved : goal.loop-item-preserved
loop-item-preserved g c =
    (AreWaysSoFar-next c.args.waits.now c.args.starts.now c.args.limit c.items-items.ensures.wiring c.args.on.now
    c.requires.on c.loop-item.search c.take.new.self c.expand.new.search c.in-Some.item c.loop-item.invariant
    c.in-Some.ensures.some c.in_ok-expand.ensures).0

pub returns : goal.returns
returns g c =
    let w = c.args.waits.now in
    let all = AreWays-all w c.args.starts.now c.args.limit c.loop-item.search c.loop-item.invariant (omega (
      arith,
      c.in_default.ensures.near,
      c.in_default.ensures.far,
      c.in_default.ensures.near_unsure,
      c.in_default.ensures.far_unsure,
    )) in
    subst (AreWays w c.args.starts.now c.args.limit) (sym c.in_default.ensures.none) all
