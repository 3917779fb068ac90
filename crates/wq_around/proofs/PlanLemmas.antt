-- The plan that heights make is safe, and takes as few new workqueues as can be.
use Rattle.std.proofs.Common.{◌≡◌, ℕ, ◌+◌, ◌-◌, ◌*◌, ◌<◌, ◌≤◌, inl, inr, cond, ltb, List, [], ◌∷◌, length}
use Rattle.std.proofs.Common.{slice_index, sym, ap, subst, ◌∙◌, arith}
use Rattle.std.specs.List.{All}
use Rattle.std.proofs.lemmas.Bool.{cases_lt, lt-ltb, le-ltb, cond-true, cond-false}
use Rattle.wq_items.specs.Chain.{Circle}
use Rattle.wq_groups.specs.Declaration.{Declaration, IsDeclaration}
use Rattle.wq_groups.specs.Assignment.{IsAssignment, IsAssignmentOf, group_lane}
use Rattle.wq_groups.proofs.Declarations.{waiting-item, awaited-item}
use Rattle.wq_groups.proofs.Lanes.{item_lanes-at}
use Rattle.wq_graph.specs.declared.arc.WaitArc.{WaitArc}
use Rattle.wq_graph.specs.Graph.{IsGraph, HasArc}
use Rattle.wq_levels.specs.Ranks.{AreRanks}
use Rattle.wq_levels.proofs.Ranks.{AreRanks-fall, AreRanks-few}
use Rattle.wq_core.specs.Wiring.{HasRescuer, RescuedWaits, lane_of}
use Rattle.wq_core.specs.Workqueues.{Workqueues, wiring_of}
use Rattle.wq_core.specs.Deadlock.{IsSafe}
use Rattle.wq_core.proofs.CircleKnots.{Deadlocks-rescued_circle}
use Rattle.wq_core.proofs.Safety.{IsSafe-rescued}
use Rattle.wq_deadlock.specs.Judging.{bare_waits}
use Rattle.wq_deadlock.proofs.BareLanes.{IsWiring-workqueues}
use Rattle.wq_fixed.specs.Fixed.{Fixed, IsFixed, IsLeastAround, Keeps, fixed_lanes, start}
use Rattle.wq_fixed.proofs.ChainsOfStart.{Circle-fewer}
use Rattle.wq_fixed.proofs.Kept.{rescuer_here}
use Rattle.wq_fixed.proofs.StartKeeps.{Keeps-start, IsAssignmentOf-start}
use Rattle.wq_plan.proofs.Relations.{IsChain-implied}
use Rattle.wq_around.specs.Heights.{AreHeights, IsPlanAround, start_graph}
use Rattle.wq_around.specs.Down.{one_if_new, IsTop}
use Rattle.wq_around.specs.Planned.{planned_lane, planned}
use Rattle.wq_around.specs.Order.{IsOrder}
use Rattle.wq_around.specs.Around.{IsPlannedAround, IsChainOf, new_lanes}
use Rattle.wq_around.proofs.HeightLemmas.{one_if_new-cases, heights-new, heights-fall}
use Rattle.wq_around.proofs.Descents.{AllLeadDown-heights}
use Rattle.wq_around.proofs.PlannedLanes.{planned-fixed, planned-new, planned-at, Keeps-planned, IsAssignment-planned}
use Rattle.wq_around.proofs.PlannedLanes.{IsPlanAround-planned}
use Rattle.wq_around.proofs.RescuedGraphs.{chain-within, rescued-length, rescued-sound, RescuedWaits-arc, rescued-arc}
use Rattle.wq_around.proofs.RescuedGraphs.{not_safe-circle, safe-ranks, awaited-rescuer}

-- ---- numbers that fall: by height; of one height that of the new lane is lowest, and those of fixed ones go by rank

module _ (new : ℕ) (heights ranks : List ℕ) where
  number : ℕ → ℕ
  number q = cond (ltb q new) (4097 * slice_index heights q + 1 + slice_index ranks q) (4097 * (q + 1 - new))

  number-fixed : (q : ℕ) → q < new → number (planned_lane heights new q)
      ≡ 4097 * slice_index heights q + 1 + slice_index ranks q
  unfolding number
  number-fixed q low =
      ap number (planned-fixed new heights q low)
      ∙ cond-true (ltb q new) (4097 * slice_index heights q + 1 + slice_index ranks q) (4097 * (q + 1 - new))
      (lt-ltb q new low)

  number-new : (q : ℕ) → new ≤ q → 0 < slice_index heights q → number (planned_lane heights new q)
      ≡ 4097 * slice_index heights q
  unfolding number
  number-new q from some =
      let p : ℕ = new + slice_index heights q - 1 in
      let same : 4097 * (p + 1 - new) ≡ 4097 * slice_index heights q = omega (arith, some) in
      ap number (planned-new new heights q from)
      ∙ cond-false (ltb p new) (4097 * slice_index heights p + 1 + slice_index ranks p) (4097 * (p + 1 - new))
      (le-ltb p new (omega (arith, some)))
      ∙ same

  number-falls : (p q : ℕ) → slice_index heights q + one_if_new new p ≤ slice_index heights p
      → slice_index ranks q < slice_index ranks p → slice_index ranks p < 4096
      → (new ≤ p → 0 < slice_index heights p) → (new ≤ q → 0 < slice_index heights q)
      → number (planned_lane heights new q) < number (planned_lane heights new p)
  number-falls p q fall rank few some_p some_q = elim (one_if_new-cases new p) [
    | inl fixed ↦ elim (cases_lt q new) [
      | inl low ↦ omega (arith, fall, rank, fixed.1, number-fixed p fixed.0, number-fixed q low)
      | inr from ↦ omega (arith, fall, fixed.1, number-fixed p fixed.0, number-new q from (some_q from))
    ]
    | inr high ↦ elim (cases_lt q new) [
      | inl low ↦ omega (arith, fall, rank, few, high.1, number-new p high.0 (some_p high.0), number-fixed q low)
      | inr from ↦ omega (arith, fall, high.1, number-new p high.0 (some_p high.0), number-new q from (some_q from))
    ]
  ]

module _ (d : Declaration) (f : Fixed) (declaration : IsDeclaration d) (fixed : IsFixed d.groups f)
    (none : bare_waits d (start f) ≡ []) (ranks : List ℕ) (ranked : AreRanks (start_graph d f) ranks)
    (heights : List ℕ) (are : AreHeights (start_graph d f) f heights) (most : ℕ)
    (above : (q : ℕ) → fixed_lanes f ≤ q → q < length heights → slice_index heights q ≤ most)
    (top : 0 < most → (q : ℕ) × IsTop (fixed_lanes f) heights most q) where
  assigned : IsAssignmentOf d.groups (start f).assignment
  assigned = IsAssignmentOf-start d.groups f fixed

  sound : IsGraph (start_graph d f)
  sound = rescued-sound d (start f) declaration assigned

  long : length (start_graph d f) ≡ (start f).assignment.lanes
  long = rescued-length d (start f) declaration assigned

  keeps : Keeps f (planned f heights most)
  keeps = Keeps-planned d f fixed heights sound long are most above

  is_assignment : IsAssignment d.groups (planned f heights most).assignment
  is_assignment = IsAssignment-planned d f fixed heights sound long are most above

  pub planned-is : IsPlanAround d f (planned f heights most)
  planned-is =
      IsPlanAround-planned d f fixed heights sound long are most above
      (AllLeadDown-heights (start_graph d f) f heights ranks sound are ranked) top

  -- ---- it is safe

  -- the lane of an item in the plan, and in the start
  lane-planned : (i : ℕ) → i < length d.group_of → lane_of (wiring_of d (planned f heights most)) i
      ≡ planned_lane heights (fixed_lanes f) (lane_of (wiring_of d (start f)) i)
  lane-planned i item =
      let group : slice_index d.group_of i < d.groups = declaration.partition.within i 0 item in
      item_lanes-at (planned f heights most).assignment d.group_of i item
      ∙ planned-at d f fixed heights sound long are most above (slice_index d.group_of i) group
      ∙ ap (planned_lane heights (fixed_lanes f)) (sym (item_lanes-at (start f).assignment d.group_of i item))

  lane-vertex : (i : ℕ) → i < length d.group_of → lane_of (wiring_of d (start f)) i < length (start_graph d f)
  lane-vertex i item =
      let group : slice_index d.group_of i < d.groups = declaration.partition.within i 0 item in
      let below : group_lane (start f).assignment (slice_index d.group_of i) < (start f).assignment.lanes =
      assigned.assignment.within (slice_index d.group_of i) 0 (omega (arith, group, assigned.assignment.one_each)) in
      omega (arith, below, long, item_lanes-at (start f).assignment d.group_of i item)

  pub planned-safe : IsSafe (wiring_of d (planned f heights most))
  planned-safe =
      IsSafe-rescued (wiring_of d (planned f heights most)) (number (fixed_lanes f) heights ranks)
      (λ i j waits rescuer.
      let item = waiting-item d declaration i j waits in
      let target = awaited-item d declaration i j waits in
      let here = rescuer_here d f (planned f heights most) declaration fixed is_assignment keeps in
      let from : HasRescuer (wiring_of d (start f)) (lane_of (wiring_of d (start f)) i) = here i item ∙ rescuer in
      let to : HasRescuer (wiring_of d (start f)) (lane_of (wiring_of d (start f)) j) =
      awaited-rescuer d (start f) declaration assigned none ranks ranked i j waits from in
      let p : ℕ = lane_of (wiring_of d (start f)) i in
      let q : ℕ = lane_of (wiring_of d (start f)) j in
      let arc : HasArc (start_graph d f) p q = rescued-arc d (start f) declaration assigned i j waits from to in
      let vertex = lane-vertex i item in
      let falls = number-falls (fixed_lanes f) heights ranks p q
      (heights-fall (start_graph d f) f heights sound are p q vertex arc)
      (AreRanks-fall (start_graph d f) ranks sound ranked p q vertex arc)
      (omega (
        arith,
        AreRanks-few (start_graph d f) ranks sound ranked p 0 (omega (arith, vertex, ranked.one_each)),
        sound.few,
      ))
      (λ new. heights-new (start_graph d f) f heights sound are p new vertex)
      (λ new. heights-new (start_graph d f) f heights sound are q new (lane-vertex j target)) in (
        sym (here j target) ∙ to,
        omega (
          arith,
          falls,
          ap (number (fixed_lanes f) heights ranks) (lane-planned i item),
          ap (number (fixed_lanes f) heights ranks) (lane-planned j target),
        ),
      ))

  -- ---- no fewer suffice

  -- workqueues that keep the fixed ones and have fewer new ones than the greatest height wait in a circle
  circle-fewer : (others : Workqueues) → IsAssignment d.groups others.assignment → Keeps f others
      → others.assignment.lanes < fixed_lanes f + most → Circle (RescuedWaits (wiring_of d others))
  circle-fewer others assignment kept few =
      let first = top (omega (arith, few, kept.lanes)) in
      let vertex : first.0 < length (start_graph d f) = omega (arith, first.1.1, are.one_each) in
      let height = are.greatest first.0 vertex in
      let chain = IsChain-implied (HasArc (start_graph d f)) (RescuedWaits (wiring_of d (start f)))
      (RescuedWaits-arc d (start f) declaration assigned) (first.0 ∷ height.others) height.chain in
      let within : All (λ q. q < (start f).assignment.lanes) (first.0 ∷ height.others) =
      subst (λ (n : ℕ). All (λ q. q < n) (first.0 ∷ height.others)) long
      (chain-within (start_graph d f) sound first.0 height.others vertex height.chain) in
      Circle-fewer d f others declaration fixed assignment kept (first.0 ∷ height.others) chain within
      (omega (arith, few, height.count, first.1.2))

  pub planned-few : fixed_lanes f + most ≤ 4096
  planned-few = elim (cases_lt (start f).assignment.lanes (fixed_lanes f + most)) [
    | inl more ↦
        absurd (not_safe-circle d (start f) declaration assigned
        (circle-fewer (start f) assigned.assignment (Keeps-start d.groups f fixed) more)
        (safe-ranks d (start f) declaration assigned none ranks ranked))
    | inr few ↦ omega (arith, few, assigned.few)
  ]

  pub planned-least : IsLeastAround d f (planned f heights most)
  planned-least = record {
    assignment = is_assignment;
    keeps = keeps;
    safe = planned-safe;
    fewer = λ others assignment kept few.
        Deadlocks-rescued_circle (wiring_of d others) (IsWiring-workqueues d others declaration assignment)
        (circle-fewer others assignment kept few);
  }

  pub IsPlannedAround-planned : (ws : Workqueues) (order : List ℕ) (chain : List WaitArc) → ws ≡ planned f heights most
      → IsOrder d ws order → IsChainOf d f most chain → IsPlannedAround d f ws order chain
  IsPlannedAround-planned ws order chain same sorted arcs =
      let count : new_lanes f (planned f heights most) ≡ most = omega arith in
      let lanes : new_lanes f ws ≡ most = ap (new_lanes f) same ∙ count in
      record {
        plan = subst (IsPlanAround d f) (sym same) planned-is;
        least = subst (IsLeastAround d f) (sym same) planned-least;
        order = sorted;
        chain = subst (λ (n : ℕ). IsChainOf d f n chain) (sym lanes) arcs;
      }
