-- The first items of a circle of lanes that have a rescuer hold one another up.
use Rattle.std.proofs.Common.{◌≡◌, ℕ, ◌+◌, ◌-◌, ◌<◌, inl, inr, Bool, false, List, length, get_or, sym, ap, subst, ◌∙◌, arith}
use Rattle.std.specs.Prelude.{slice_index, Contains}
use Rattle.std.proofs.lemmas.Bool.{cases_lt}
use Rattle.std.proofs.lemmas.List.{length-map, get_or-map}
use Rattle.std.proofs.lemmas.List.Elements.{All-contains}
use Rattle.wq_items.specs.declared.target.Target.{Target}
use Rattle.wq_groups.specs.Declaration.{Declaration, IsDeclaration}
use Rattle.wq_groups.specs.Assignment.{Assignment, IsAssignment, item_lanes}
use Rattle.wq_graph.specs.declared.arc.WaitArc.{WaitArc}
use Rattle.wq_graph.specs.Graph.{lane_graph, arcs_at, is_left_out, without, IsArc}
use Rattle.wq_graph.proofs.Graphs.{AreArcsFrom-lane_graph}
use Rattle.wq_graph.proofs.LeavingOut.{Contains-without}
use Rattle.wq_levels.specs.Walks.{LeadsRound}
use Rattle.wq_levels.proofs.OneCircle.{some_length}
use Rattle.wq_core.specs.Wiring.{Wiring, HasRescuer, wiring, lane_of}
use Rattle.wq_core.specs.Workqueues.{with_bare}
use Rattle.wq_core.specs.Knot.{HasLane, WaitsAmong, IsKnot}
use Rattle.wq_deadlock.specs.CircleRun.{flushing_items}

module _ (d : Declaration) (a : Assignment) (bare : List Bool) (declaration : IsDeclaration d) (assignment : IsAssignment d.groups a) (circle : List WaitArc)
    (round : LeadsRound (without bare (lane_graph d a)) circle) where
  abbrev w : Wiring
  w = with_bare (wiring d a) bare

  -- what a place past the last would have
  abbrev no_arc : WaitArc
  no_arc = record { src = 0; dst = 0; head = 0; place = 0 }

  -- arc k of the circle
  abbrev arc : ℕ → WaitArc
  arc k = get_or circle k no_arc

  -- it leaves a lane that has a rescuer
  arc_there : (k : ℕ) → k < length circle → (is_left_out bare (slice_index round.left k) ≡ false) × (is_left_out bare (arc k).head ≡ false) × Contains (arcs_at (lane_graph d a) (slice_index round.left k)) (arc k)
  arc_there k lt = Contains-without bare (lane_graph d a) (slice_index round.left k) (arc k) (round.leaves k no_arc lt)

  -- it is a declared flush, and its first item is on the lane that it leaves
  arc_leaves : (k : ℕ) → k < length circle → IsArc d.waits (item_lanes a d.group_of) (arc k) × (lane_of w (arc k).src ≡ slice_index round.left k)
  arc_leaves k lt =
      All-contains (λ (b : WaitArc). IsArc d.waits (item_lanes a d.group_of) b × (slice_index (item_lanes a d.group_of) b.src ≡ slice_index round.left k))
      (arcs_at (lane_graph d a) (slice_index round.left k)) (arc k) (AreArcsFrom-lane_graph d a declaration assignment (slice_index round.left k)).declared (arc_there k lt).2

  size : length (flushing_items circle) ≡ length circle
  size = length-map circle (λ (b : WaitArc). b.src)

  first_item : (k e : ℕ) → k < length circle → get_or (flushing_items circle) k e ≡ (arc k).src
  first_item k e lt = get_or-map (λ (b : WaitArc). b.src) circle k no_arc e lt

  -- each lane of the circle has its first item
  HasLane-left : (k : ℕ) → k < length circle → HasLane w (flushing_items circle) (slice_index round.left k)
  HasLane-left k lt = (k, (arc k).src, omega (arith, size), first_item k (arc k).src lt, (arc_leaves k lt).1)

  -- an arc leads to a lane of the circle
  HasLane-head : (k : ℕ) → k < length circle → HasLane w (flushing_items circle) (arc k).head
  HasLane-head k lt = elim (cases_lt (k + 1) (length circle)) [
    | inl before ↦ subst (λ (q : ℕ). HasLane w (flushing_items circle) q) (sym (round.joined k no_arc before)) (HasLane-left (k + 1) before)
    | inr last ↦ (
        let at : length circle - 1 ≡ k = omega arith in
        let closes : (arc k).head ≡ slice_index round.left 0 = subst (λ (m : ℕ). (arc m).head ≡ slice_index round.left 0) at (round.closes no_arc) in
        subst (λ (q : ℕ). HasLane w (flushing_items circle) q) (sym closes) (HasLane-left 0 (omega arith))
        )
  ]

  WaitsAmong-arc : (k : ℕ) → k < length circle → WaitsAmong w (flushing_items circle) (arc k).src
  WaitsAmong-arc k lt =
      let is = (arc_leaves k lt).0 in
      let t : Target = is.declared.1 in
      let lane : (arc k).head ≡ lane_of w t.item = is.head ∙ ap (lane_of w) (sym is.declared.4.0) in
      (is.declared.0, t, is.declared.2, is.declared.3, inl (subst (λ (q : ℕ). HasLane w (flushing_items circle) q) lane (HasLane-head k lt)))

  -- the items are on lanes that have a rescuer
  rescued-arc : (k : ℕ) → k < length circle → HasRescuer w (lane_of w (arc k).src)
  rescued-arc k lt = subst (HasRescuer w) (sym (arc_leaves k lt).1) (arc_there k lt).0

  pub IsKnot-flushing_items : IsKnot w (flushing_items circle)
  IsKnot-flushing_items = record {
    some = omega (arith, size, some_length circle round.some);
    apart = λ i j e lt within same.
        let last : j < length circle = omega (arith, size) in
        let first : i < length circle = omega arith in
        let left : slice_index round.left i ≡ slice_index round.left j =
        sym (arc_leaves i first).1 ∙ ap (lane_of w) (sym (first_item i e first)) ∙ same ∙ ap (lane_of w) (first_item j e last) ∙ (arc_leaves j last).1 in
        round.once i j 0 lt (omega (arith, round.one_each)) left;
    rescued = λ k e lt.
        let within : k < length circle = omega (arith, size) in
        subst (λ (i : ℕ). HasRescuer w (lane_of w i)) (sym (first_item k e within)) (rescued-arc k within);
    held = λ k e lt.
        let within : k < length circle = omega (arith, size) in
        subst (λ (i : ℕ). WaitsAmong w (flushing_items circle) i) (sym (first_item k e within)) (WaitsAmong-arc k within);
  }
