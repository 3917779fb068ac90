-- Workqueues that keep the fixed ones, beside the start: what waits for what there waits here, too.
use Rattle.std.proofs.Common.{◌≡◌, ℕ, ◌<◌, ◌≤◌, inl, inr, false, cond, ltb, [], length}
use Rattle.std.proofs.Common.{get_or, Option, Some, None, sym, ap, ◌∙◌, arith}
use Rattle.std.specs.Prelude.{slice_get, option_map}
use Rattle.std.proofs.lemmas.Bool.{lt-ltb, le-ltb, cond-true, cond-false}
use Rattle.std.proofs.lemmas.List.{get_or_past}
use Rattle.std.proofs.lemmas.Option.{slice_get_cases, slice_get-map, get_or_from_slice_get}
use Rattle.wq_groups.specs.Declaration.{Declaration, IsDeclaration}
use Rattle.wq_groups.specs.Assignment.{IsAssignment, group_lane, item_lanes}
use Rattle.wq_groups.proofs.Lanes.{item_lanes-at}
use Rattle.wq_core.specs.Wiring.{RescuedWaits, lane_of}
use Rattle.wq_core.specs.Workqueues.{Workqueues, wiring_of}
use Rattle.wq_fixed.specs.Fixed.{Fixed, IsFixed, Keeps, fixed_lanes, start}
use Rattle.wq_fixed.proofs.StartLanes.{start-stays, start-free, lane_for, lane_for-free}

module _ (d : Declaration) (f : Fixed) (ws : Workqueues) (declaration : IsDeclaration d) (fixed : IsFixed d.groups f)
    (assignment : IsAssignment d.groups ws.assignment) (keeps : Keeps f ws) where
  -- the lane that stands for a lane of the start
  abbrev pub lane_now : ℕ → ℕ
  lane_now q = cond (ltb q (fixed_lanes f)) q (lane_for (fixed_lanes f) f.lane_of_group ws.assignment.lane_of_group q)

  -- what is known of the lane of a group in the start, and of its lane here
  abbrev pub IsLaneHere : ℕ → Type 0
  IsLaneHere g =
      (lane_now (group_lane (start f).assignment g) ≡ group_lane ws.assignment g)
      × (get_or f.bare (group_lane (start f).assignment g) false ≡ get_or ws.bare (group_lane ws.assignment g) false)

  lane_here_by : (g : ℕ) (lane : Option ℕ) → g < d.groups → slice_get f.lane_of_group g ≡ Some lane → IsLaneHere g
  lane_here_by g (Some q) group at =
      let there : group_lane (start f).assignment g ≡ q = start-stays (fixed_lanes f) f.lane_of_group g q at in
      let here : group_lane ws.assignment g ≡ q = keeps.stays g q at in
      let within : q < fixed_lanes f = fixed.within g q at in
      let stays : lane_now q ≡ q = cond-true (ltb q (fixed_lanes f)) q
      (lane_for (fixed_lanes f) f.lane_of_group ws.assignment.lane_of_group q) (lt-ltb q (fixed_lanes f) within) in
      let same : get_or ws.bare q false ≡ get_or f.bare q false = keeps.bare q (omega (arith, keeps.lanes, within)) in (
        ap lane_now there ∙ stays ∙ sym here,
        ap (λ (n : ℕ). get_or f.bare n false) there ∙ sym same ∙ ap (λ (n : ℕ). get_or ws.bare n false) (sym here),
      )
  lane_here_by g None group at =
      let there = start-free (fixed_lanes f) f.lane_of_group g at in
      let from : fixed_lanes f ≤ group_lane (start f).assignment g = there.0 in
      let here : fixed_lanes f ≤ group_lane ws.assignment g = keeps.new g at in
      let within : group_lane ws.assignment g < ws.assignment.lanes =
      assignment.within g 0 (omega (arith, assignment.one_each, group)) in (
        cond-false (ltb (group_lane (start f).assignment g) (fixed_lanes f)) (group_lane (start f).assignment g)
            (lane_for (fixed_lanes f) f.lane_of_group ws.assignment.lane_of_group (group_lane (start f).assignment g))
            (le-ltb (group_lane (start f).assignment g) (fixed_lanes f) from)
            ∙ lane_for-free (fixed_lanes f) f.lane_of_group ws.assignment.lane_of_group g
            (omega (arith, assignment.one_each, fixed.one_each)) at,
        get_or_past f.bare (group_lane (start f).assignment g) false from
            ∙ sym (get_or_past f.bare (group_lane ws.assignment g) false here)
            ∙ sym (keeps.bare (group_lane ws.assignment g) within),
      )

  pub lane_here : (g : ℕ) → g < d.groups → IsLaneHere g
  lane_here g group = elim ((slice_get_cases f.lane_of_group g).1) [
    | inl found ↦ lane_here_by g found.0 group found.2
    | inr past ↦ absurd (let over : length f.lane_of_group ≤ g = past.0 in omega (arith, fixed.one_each))
  ]

  -- the group of an item whose lane this is in the start
  of_item : (i p : ℕ) → slice_get (item_lanes (start f).assignment d.group_of) i ≡ Some p
      → (g : ℕ) × (g < d.groups) × (slice_get d.group_of i ≡ Some g) × (group_lane (start f).assignment g ≡ p)
  of_item i p at = elim ((slice_get_cases d.group_of i).1) [
    | inl found ↦
        let mapped : slice_get (item_lanes (start f).assignment d.group_of) i ≡ Some
        (group_lane (start f).assignment found.0) =
        slice_get-map (group_lane (start f).assignment) d.group_of i
        ∙ ap (λ (o : Option ℕ). option_map (group_lane (start f).assignment) o) found.2 in
        let below : get_or d.group_of i 0 < d.groups = declaration.partition.within i 0 found.1 in
        let is : get_or d.group_of i 0 ≡ found.0 = get_or_from_slice_get d.group_of i found.0 0 found.2 in
        (found.0, omega (arith, below, is), found.2, cc)
    | inr past ↦ absurd (let never : None ≡ Some p = sym (slice_get-map (group_lane (start f).assignment) d.group_of i
        ∙ ap (λ (o : Option ℕ). option_map (group_lane (start f).assignment) o) past.1) ∙ at in cc)
  ]

  -- the same item's lane here
  at_here : (i p : ℕ) → slice_get (item_lanes (start f).assignment d.group_of) i ≡ Some p
      → (slice_get (item_lanes ws.assignment d.group_of) i ≡ Some (lane_now p))
      × (get_or f.bare p false ≡ get_or ws.bare (lane_now p) false)
  at_here i p at =
      let (g, group, is, lane) = of_item i p at in
      let here = lane_here g group in
      let now : lane_now p ≡ group_lane ws.assignment g = ap lane_now (sym lane) ∙ here.0 in (
        slice_get-map (group_lane ws.assignment) d.group_of i
            ∙ ap (λ (o : Option ℕ). option_map (group_lane ws.assignment) o) is ∙ ap (λ (n : ℕ). Some n) (sym now),
        ap (λ (n : ℕ). get_or f.bare n false) (sym lane) ∙ here.1 ∙ ap (λ (n : ℕ). get_or ws.bare n false) (sym now),
      )

  -- what waits in the start waits here
  pub waits_here : (p q : ℕ) → RescuedWaits (wiring_of d (start f)) p q
      → RescuedWaits (wiring_of d ws) (lane_now p) (lane_now q)
  waits_here p q waiting =
      let by = waiting.2 in
      let from = at_here by.item p by.of_item in
      let to = at_here by.target q by.of_target in (
        sym from.1 ∙ waiting.0,
        sym to.1 ∙ waiting.1,
        record {
          item = by.item;
          target = by.target;
          declares = by.declares;
          of_item = from.0;
          of_target = to.0;
        },
      )

  -- an item's lane has a rescuer here if it has one in the start, and the other way round
  pub rescuer_here : (i : ℕ) → i < length d.group_of
      → get_or f.bare (lane_of (wiring_of d (start f)) i) false ≡ get_or ws.bare (lane_of (wiring_of d ws) i) false
  rescuer_here i item =
      let below : get_or d.group_of i 0 < d.groups = declaration.partition.within i 0 item in
      let here = lane_here (get_or d.group_of i 0) below in
      ap (λ (n : ℕ). get_or f.bare n false) (item_lanes-at (start f).assignment d.group_of i item)
      ∙ here.1
      ∙ ap (λ (n : ℕ). get_or ws.bare n false) (sym (item_lanes-at ws.assignment d.group_of i item))
