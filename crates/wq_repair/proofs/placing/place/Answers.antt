use Rattle.std.proofs.Common.{◌≡◌, ℕ, ◌+◌, ◌-◌, ◌<◌, ◌≤◌, length, drop, take_at, sym, ap, subst, ◌∙◌, arith}
use Rattle.std.specs.List.{All}
use Rattle.std.proofs.lemmas.List.{get_or_default}
use Rattle.wq_groups.specs.Assignment.{Assignment}
use Rattle.wq_core.specs.Workqueues.{Workqueues}
use Rattle.wq_repair.specs.Changes.{lane_in}
use Rattle.wq_repair.specs.Steps.{ArePlacedBy}
use Rattle.wq_repair.specs.Placing.{AreHosted}
use Rattle.wq_repair.proofs.LaneReads.{lane-within, Workqueues-made}
use Rattle.wq_repair.proofs.PlacedSteps.{leaving-has_lane}
use Rattle.wq_repair.proofs.PlacedMade.{ArePlacedBy-made, AreHosted-made}
use Rattle.wq_repair.proofs.placing.place.Goals as goal

pub lanes_by_rank-requires-clause-below : goal.lanes_by_rank-requires-clause-below
lanes_by_rank-requires-clause-below g c = c.requires.can.below

pub ranks_that_leave-requires-clause-below : goal.ranks_that_leave-requires-clause-below
ranks_that_leave-requires-clause-below g c = c.requires.can.below

pub lanes_of_groups-requires-clause-below : goal.lanes_of_groups-requires-clause-below
lanes_of_groups-requires-clause-below g c =
    let after = c.take_lanes-taken.new.of_rank in
    let whole : c.as_slice-4.result.now ≡ after =
    c.as_slice-4.ensures.value ∙ take_at after (drop (length after) c.in_ok-of_rank.of_rank.items)
    c.in_ok-of_rank.of_rank.len (c.take_lanes-taken.auto.of_rank ∙ c.as_mut_slice.ensures.len) in
    λ h lt. omega (
      arith,
      c.requires.can.below h lt,
      ap length whole,
      c.take_lanes-taken.ensures.one_each,
      ap length c.as_mut_slice.ensures.value,
      c.in_ok-of_rank.ensures.one_each,
    )

pub lanes_of_groups-requires-clause-some : goal.lanes_of_groups-requires-clause-some
lanes_of_groups-requires-clause-some g c =
    let after = c.take_lanes-taken.new.of_rank in
    let leaving = rw (← c.as_slice-2.ensures.value) at c.in_ok-leave.ensures in
    let whole : c.as_slice-4.result.now ≡ after =
    c.as_slice-4.ensures.value ∙ take_at after (drop (length after) c.in_ok-of_rank.of_rank.items)
    c.in_ok-of_rank.of_rank.len (c.take_lanes-taken.auto.of_rank ∙ c.as_mut_slice.ensures.len) in
    rw whole (leaving-has_lane c.args.leaves.now c.as_slice-2.result.now c.args.ranks.now c.as_slice-3.result.now
    c.lanes.result c.args.most c.take_lanes-taken.result c.as_mut_slice.result.now after
    (c.requires.one_each ∙ sym c.requires.leaves) c.requires.can.below leaving
    (rw leaving.one_each at c.take_lanes-taken.ensures))

pub unwrap-assignment-requires : goal.unwrap-assignment-requires
unwrap-assignment-requires g c =
    let ws = c.args.old.now in
    let old : Assignment = ws.assignment in
    let stays = c.args.stays.now in
    let leaves = c.args.leaves.now in
    let movable = c.args.movable.now in
    let leave = c.as_slice-2.result.now in
    let empty = c.as_slice-3.result.now in
    let after = c.take_lanes-taken.new.of_rank in
    let taken = c.take_lanes-taken.result in
    let lane_of = c.in_ok-lane_of.lane_of.items in
    let there : c.lanes.result ≡ old.lanes = c.lanes.ensures.lanes
    ∙ ap (λ (a : Assignment). a.lanes) c.assignment-assignment.ensures in
    let within : (h : ℕ) → h < length leaves → lane_in ws h < old.lanes =
    λ h lt. lane-within old c.assignment-assignment.result.now h c.assignment-assignment.ensures
    c.lanes.ensures.within (omega (arith, lt, c.requires.leaves)) in
    let lanes = rw (← c.as_mut_slice.ensures.value) at c.in_ok-of_rank.ensures in
    let are_named = rw (← c.as_slice.ensures.value) at c.in_ok-named.ensures in
    let leaving = rw (← c.as_slice-2.ensures.value) at c.in_ok-leave.ensures in
    let free = rw (← c.as_slice-3.ensures.value) at c.in_ok-empty.ensures.free in
    let are_empty = rw (← c.as_slice-3.ensures.value) at c.in_ok-empty.ensures.empty in
    let took = rw (leaving.one_each, there) at c.take_lanes-taken.ensures in
    let whole : c.as_slice-4.result.now ≡ after =
    c.as_slice-4.ensures.value ∙ take_at after (drop (length after) c.in_ok-of_rank.of_rank.items)
    c.in_ok-of_rank.of_rank.len (c.take_lanes-taken.auto.of_rank ∙ c.as_mut_slice.ensures.len) in
    let ranked = rw whole at c.in_ok-lane_of.ensures in
    let now = rw c.as_slice-5.ensures.value at c.in_ok-bare.ensures in
    let count : c.lanes_with-lanes.result ≡ old.lanes + (taken - length empty) =
    omega (
      arith,
      c.lanes_with-lanes.ensures,
      c.lanes-2.ensures.lanes,
      ap (λ (a : Assignment). a.lanes) c.assignment-assignment.ensures,
      ap length (c.as_slice-6.ensures.value ∙ sym c.as_slice-3.ensures.value),
    ) in
    let placed =
    ArePlacedBy-made ws c.args.given.now stays leaves leave c.in_ok-bare.bare.items c.as_slice.result.now movable
    c.args.ranks.now empty lane_of c.as_mut_slice.result.now after c.args.most taken c.requires.leaves c.requires.stays
    c.requires.one_each within c.requires.can (length stays) lanes are_named leaving free are_empty took ranked now in
    let few : old.lanes + (taken - length empty) ≤ 4096 =
    omega (arith, placed.few, c.requires.few, c.lanes.ensures.few, there) in
    let within : All (λ (q : ℕ). q < c.lanes_with-lanes.result) lane_of =
    λ k e lt. omega (arith, ap (λ (x : ℕ). x) (get_or_default lane_of k 0 e lt), placed.within k (omega (arith, lt, ranked.one_each)), count) in
    c.new.ensures.exactly.1 (omega (arith, few, count), within)

pub new-requires-2 : goal.new-requires-2
new-requires-2 g c =
    let some = rw c.unwrap-assignment.ensures at c.new.ensures.some in
    omega (
      arith,
      c.in_ok-bare.ensures.few,
      some.0,
      c.lanes_with-lanes.ensures,
      c.lanes-2.ensures.lanes,
      ap (λ (a : Assignment). a.lanes) c.assignment-assignment.ensures,
    )

pub returns : goal.returns
returns g c =
    let ws = c.args.old.now in
    let old : Assignment = ws.assignment in
    let stays = c.args.stays.now in
    let leaves = c.args.leaves.now in
    let movable = c.args.movable.now in
    let leave = c.as_slice-2.result.now in
    let empty = c.as_slice-3.result.now in
    let after = c.take_lanes-taken.new.of_rank in
    let taken = c.take_lanes-taken.result in
    let lane_of = c.in_ok-lane_of.lane_of.items in
    let there : c.lanes.result ≡ old.lanes = c.lanes.ensures.lanes
    ∙ ap (λ (a : Assignment). a.lanes) c.assignment-assignment.ensures in
    let within : (h : ℕ) → h < length leaves → lane_in ws h < old.lanes =
    λ h lt. lane-within old c.assignment-assignment.result.now h c.assignment-assignment.ensures
    c.lanes.ensures.within (omega (arith, lt, c.requires.leaves)) in
    let lanes = rw (← c.as_mut_slice.ensures.value) at c.in_ok-of_rank.ensures in
    let are_named = rw (← c.as_slice.ensures.value) at c.in_ok-named.ensures in
    let leaving = rw (← c.as_slice-2.ensures.value) at c.in_ok-leave.ensures in
    let free = rw (← c.as_slice-3.ensures.value) at c.in_ok-empty.ensures.free in
    let are_empty = rw (← c.as_slice-3.ensures.value) at c.in_ok-empty.ensures.empty in
    let took = rw (leaving.one_each, there) at c.take_lanes-taken.ensures in
    let whole : c.as_slice-4.result.now ≡ after =
    c.as_slice-4.ensures.value ∙ take_at after (drop (length after) c.in_ok-of_rank.of_rank.items)
    c.in_ok-of_rank.of_rank.len (c.take_lanes-taken.auto.of_rank ∙ c.as_mut_slice.ensures.len) in
    let ranked = rw whole at c.in_ok-lane_of.ensures in
    let now = rw c.as_slice-5.ensures.value at c.in_ok-bare.ensures in
    let count : c.lanes_with-lanes.result ≡ old.lanes + (taken - length empty) =
    omega (
      arith,
      c.lanes_with-lanes.ensures,
      c.lanes-2.ensures.lanes,
      ap (λ (a : Assignment). a.lanes) c.assignment-assignment.ensures,
      ap length (c.as_slice-6.ensures.value ∙ sym c.as_slice-3.ensures.value),
    ) in
    let placed =
    ArePlacedBy-made ws c.args.given.now stays leaves leave c.in_ok-bare.bare.items c.as_slice.result.now movable
    c.args.ranks.now empty lane_of c.as_mut_slice.result.now after c.args.most taken c.requires.leaves c.requires.stays
    c.requires.one_each within c.requires.can (length stays) lanes are_named leaving free are_empty took ranked now in
    let hosted =
    AreHosted-made ws c.args.given.now stays leaves leave c.in_ok-bare.bare.items c.as_slice.result.now movable
    c.args.ranks.now empty lane_of c.as_mut_slice.result.now after c.args.most taken c.requires.leaves c.requires.stays
    c.requires.one_each within c.requires.can (length stays) lanes are_named leaving free are_empty took ranked now in
    let some = rw c.unwrap-assignment.ensures at c.new.ensures.some in
    subst (λ (new : Workqueues). ArePlacedBy ws c.args.given.now stays leaves c.args.ranks.now new
    × AreHosted ws movable leaves new)
    (sym (Workqueues-made c.new-2.result c.unwrap-assignment.result c.in_ok-bare.bare.items
    (old.lanes + (taken - length empty)) lane_of c.new-2.ensures (some.0 ∙ count) some.1)) (placed, hosted)
