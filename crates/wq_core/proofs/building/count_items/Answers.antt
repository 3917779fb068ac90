use Rattle.std.proofs.Common.{◌<◌, ◌∙◌, ◌+◌, length, take, ap, refl, arith}
use Rattle.std.specs.Prelude.{slice_index}
use Rattle.std.proofs.lemmas.List.{get_or_default}
use Rattle.std.proofs.lemmas.List.FromFn.{length-map-range_with_len}
use Rattle.wq_core.specs.Building.{counted_shape}
use Rattle.wq_core.proofs.Parts.{shapes-none, counts-within, CountsNext-read, counted-few, counted-more}
use Rattle.wq_core.proofs.building.count_items.Goals as goal

pub loop-lane-init : goal.loop-lane-init
loop-lane-init g c = c.in_ok-shapes.ensures.shapes ∙ shapes-none c.args.lanes

pub index_mut-requires : goal.index_mut-requires
index_mut-requires g c =
    let of = c.args.lane_of_item.now in
    let k = c.loop-lane.lane-index in
    let lane = slice_index of k in
    let within : c.from.result < c.args.lanes =
    counts-within of c.args.lanes k c.from.result lane c.loop-lane-test.true c.requires.within c.from.ensures
    (get_or_default of k 0 lane c.loop-lane-test.true) in
    let count = ap length c.loop-lane.invariant ∙ length-map-range_with_len (counted_shape (take c.loop-lane.lane-index c.args.lane_of_item.now)) 0 c.args.lanes in
    omega (arith, within, count, c.loop-lane.shapes.ok)

pub overflow_add-index_mut : goal.overflow_add-index_mut
overflow_add-index_mut g c =
    let of = c.args.lane_of_item.now in
    let k = c.loop-lane.lane-index in
    let shapes = c.loop-lane.shapes.items in
    let q = c.from.result in
    let old = c.index_mut.result.now in
    let lane = slice_index of k in
    let next =
    CountsNext-read of c.args.lanes k shapes q lane old c.loop-lane-test.true c.requires.within c.from.ensures
    (get_or_default of k 0 lane c.loop-lane-test.true) c.loop-lane.invariant c.index_mut.ensures.value in
    omega (arith, counted-few of c.args.lanes k shapes q old next, c.requires.few)

pub loop-lane-preserved : goal.loop-lane-preserved
loop-lane-preserved g c =
    let of = c.args.lane_of_item.now in
    let k = c.loop-lane.lane-index in
    let shapes = c.loop-lane.shapes.items in
    let q = c.from.result in
    let old = c.index_mut.result.now in
    let lane = slice_index of k in
    let next =
    CountsNext-read of c.args.lanes k shapes q lane old c.loop-lane-test.true c.requires.within c.from.ensures
    (get_or_default of k 0 lane c.loop-lane-test.true) c.loop-lane.invariant c.index_mut.ensures.value in
    counted-more of c.args.lanes k shapes q old (record { items = old.items + 1; ordered = old.ordered }) next refl
