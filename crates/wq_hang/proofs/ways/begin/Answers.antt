use Rattle.std.proofs.Common.{◌≡◌, ◌+◌, ◌<◌, ◌⊎◌, inl, inr, ℕ, List, [], length, get_or, replicate, take, sym, ap}
use Rattle.std.proofs.Common.{subst}
use Rattle.std.proofs.Common.{◌∙◌, arith}
use Rattle.std.specs.Prelude.{Contains, slice_index_or}
use Rattle.std.proofs.lemmas.List.{take_all}
use Rattle.std.proofs.lemmas.List.Elements.{All-contains, Contains-get_or}
use Rattle.wq_core.specs.Wiring.{HasRescuer, items, lane_of}
use Rattle.wq_hang.specs.WaysFor.{start_lane}
use Rattle.wq_hang.proofs.Taken.{contains_more}
use Rattle.wq_hang.proofs.Searching.{IsNew}
use Rattle.wq_hang.proofs.WaysFound.{AreBegun, AreBegun-new, AreBegun-start, AreBehind, AreBehind-none, AreBehind-lane}
use Rattle.wq_hang.proofs.WaysFound.{AreWaysSoFar-behind}
use Rattle.wq_hang.proofs.ways.begin.Goals as goal

pub loop-item-init : goal.loop-item-init
loop-item-init g c =
    let w = c.args.waits.now in
    let limit = c.args.limit in
    let new : IsNew w limit c.begin.new.self = record {
      costs = c.in_ok-begin.ensures.costs ∙ ap (λ (n : ℕ). replicate n limit) c.items.ensures.items;
      lane_costs = c.in_ok-begin.ensures.lane_costs ∙ ap (λ (n : ℕ). replicate n limit) c.lanes.ensures.lanes;
      by_each = c.in_ok-begin.ensures.by ∙ c.items.ensures.items;
      near = c.in_ok-begin.ensures.near;
      far = c.in_ok-begin.ensures.far;
      near_unsure = c.in_ok-begin.ensures.near_unsure;
      far_unsure = c.in_ok-begin.ensures.far_unsure;
    } in
    AreBegun-new w c.args.starts.now limit c.begin.new.self c.items.ensures.wiring new

pub start-requires : goal.start-requires
start-requires g c =
    let w = c.args.waits.now in
    let starts = c.args.starts.now in
    let i : ℕ = c.item-item.result in
    let there : Contains starts i = (c.loop-item.item-index, c.loop-item-test.true, sym c.item-item.is) in
    let is = All-contains (λ (j : ℕ). (j < items w) × HasRescuer w (lane_of w j)) starts i c.requires.starts there in
    omega (arith, is.0, c.loop-item.invariant.reach.one_each)

pub loop-item-preserved : goal.loop-item-preserved
loop-item-preserved g c =
    let w = c.args.waits.now in
    let starts = c.args.starts.now in
    let limit = c.args.limit in
    let k : ℕ = c.loop-item.item-index in
    let i : ℕ = c.item-item.result in
    let there : Contains starts i = (k, c.loop-item-test.true, sym c.item-item.is) in
    let is = All-contains (λ (j : ℕ). (j < items w) × HasRescuer w (lane_of w j)) starts i c.requires.starts there in
    let either : (j : ℕ) → Contains (take (k + 1) starts) j → Contains (take k starts) j ⊎ (i ≡ j) = λ j in_more.
    elim (contains_more starts k i j c.loop-item-test.true in_more) [
      | inl before ↦ inl before
      | inr same ↦ inr (c.item-item.is ∙ same)
    ] in
    subst (AreBegun w starts limit (take (k + 1) starts)) (sym c.in_ok-start.ensures)
    (AreBegun-start w starts limit (take k starts) (take (k + 1) starts) c.loop-item.search i c.loop-item.invariant
    there
    is.0 is.1 either)

pub loop-item-2-init : goal.loop-item-2-init
loop-item-2-init g c =
    let w = c.args.waits.now in
    let starts = c.args.starts.now in
    AreBehind-none w starts c.args.limit c.loop-item.search
    (subst (λ (l : List ℕ). AreBegun w starts c.args.limit l c.loop-item.search)
    (take_all c.loop-item.item-index starts c.loop-item-test.false) c.loop-item.invariant)

pub start_lane-requires-clause-lane : goal.start_lane-requires-clause-lane
start_lane-requires-clause-lane g c =
    omega (arith, c.lane_of-lane.ensures.within, c.loop-item-2.invariant.begun.reach.lanes_each)

pub start_lane-requires-clause-on : goal.start_lane-requires-clause-on
start_lane-requires-clause-on g c k d lt =
    let on : List ℕ = c.places.result.now in
    let there : Contains (slice_index_or c.args.on.now c.get.result []) (get_or on k d) =
    subst (λ (l : List ℕ). Contains l (get_or on k d)) c.places.ensures (Contains-get_or on k d lt) in
    omega (
      arith,
      (c.requires.on.within c.get.result (get_or on k d) there).0,
      c.loop-item-2.invariant.begun.reach.one_each,
    )

pub start_lane-requires-clause-few : goal.start_lane-requires-clause-few
start_lane-requires-clause-few g c =
    omega (arith, c.loop-item-2.invariant.begun.reach.one_each, c.items.ensures.items, c.items.ensures.few)

pub loop-item-2-preserved : goal.loop-item-2-preserved
loop-item-2-preserved g c =
    let w = c.args.waits.now in
    let on = c.args.on.now in
    let starts = c.args.starts.now in
    let limit = c.args.limit in
    let s = c.loop-item-2.search in
    let k : ℕ = c.loop-item-2.item-index in
    let i : ℕ = c.item-item-in-loop-item-2.result in
    let there : Contains starts i = (k, c.loop-item-2-test.true, sym c.item-item-in-loop-item-2.is) in
    let is = All-contains (λ (j : ℕ). (j < items w) × HasRescuer w (lane_of w j)) starts i c.requires.starts there in
    let either : (j : ℕ) → Contains (take (k + 1) starts) j → Contains (take k starts) j ⊎ (i ≡ j) = λ j in_more.
    elim (contains_more starts k i j c.loop-item-2-test.true in_more) [
      | inl before ↦ inl before
      | inr same ↦ inr (c.item-item-in-loop-item-2.is ∙ same)
    ] in
    let made =
    c.in_ok-start_lane.ensures
    ∙ ap (λ (l : List ℕ). start_lane c.lane_of-lane.result l s)
    (c.places.ensures ∙ ap (λ (q : ℕ). slice_index_or on q []) c.get.ensures)
    ∙ ap (λ (q : ℕ). start_lane q (slice_index_or on q []) s) c.lane_of-lane.ensures.lane in
    subst (AreBehind w starts limit (take (k + 1) starts)) (sym made)
    (AreBehind-lane w starts limit c.items.ensures.wiring on c.requires.on (take k starts) (take (k + 1) starts) s i
    c.loop-item-2.invariant there is.0 is.1 either)

pub returns : goal.returns
returns g c =
    let w = c.args.waits.now in
    let starts = c.args.starts.now in
    AreWaysSoFar-behind w starts c.args.limit c.loop-item-2.search
    (subst (λ (l : List ℕ). AreBehind w starts c.args.limit l c.loop-item-2.search)
    (take_all c.loop-item-2.item-index starts c.loop-item-2-test.false) c.loop-item-2.invariant)
