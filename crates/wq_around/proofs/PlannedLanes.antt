-- The plan that heights make: where each group is.
use Rattle.std.proofs.Common.{◌≡◌, ℕ, suc, ◌+◌, ◌-◌, ◌<◌, ◌≤◌, inl, inr, ltb, List, [], ◌∷◌, length, map}
use Rattle.std.proofs.Common.{get_or, slice_index, Option, Some, None, refl, sym, ap, subst, ◌∙◌, arith}
use Rattle.std.specs.Prelude.{slice_get}
use Rattle.std.specs.List.{All}
use Rattle.std.proofs.lemmas.Bool.{cases_eq, cases_lt, lt-ltb, le-ltb, cond-true, cond-false}
use Rattle.std.proofs.lemmas.List.{get_or-map, length-map}
use Rattle.std.proofs.lemmas.List.Elements.{All-map}
use Rattle.std.proofs.lemmas.Option.{slice_get_within}
use Rattle.wq_groups.specs.Declaration.{Declaration}
use Rattle.wq_groups.specs.Assignment.{IsAssignment, group_lane}
use Rattle.wq_graph.specs.Graph.{IsGraph}
use Rattle.wq_fixed.specs.Fixed.{Fixed, IsFixed, IsFree, Keeps, fixed_lanes, start, start_lanes}
use Rattle.wq_fixed.proofs.StartKeeps.{Keeps-start, IsAssignmentOf-start}
use Rattle.wq_fixed.proofs.StartLanes.{count_free, count_free-is}
use Rattle.wq_around.specs.Heights.{AreHeights, IsPlanAround, start_graph}
use Rattle.wq_around.specs.Down.{AllLeadDown, IsTop}
use Rattle.wq_around.specs.Planned.{planned_lane, planned}
use Rattle.wq_around.proofs.HeightLemmas.{IsHeight-unique, heights-new, heights-within}
use Rattle.wq_around.proofs.Descents.{down-passes}

-- each new lane of the start is that of a free group
free_group : (next : ℕ) (lanes : List (Option ℕ)) (q : ℕ) → next ≤ q → q < next + count_free lanes
    → (g : ℕ) × (slice_get lanes g ≡ Some None) × (get_or (start_lanes next lanes) g 0 ≡ q)
free_group next [] q from to = let none : q < next + 0 = to in absurd (omega (arith, from, none))
free_group next (None ∷ lanes) q from to =
    let below : q < next + (1 + count_free lanes) = to in
    elim (cases_eq q next) [
      | inl same ↦ (0, refl, sym same)
      | inr other ↦
          let rest = free_group (next + 1) lanes q (omega (arith, from, other)) (omega (arith, below)) in
          (suc rest.0, rest.1, rest.2)
    ]
free_group next (Some s ∷ lanes) q from to = let rest = free_group next lanes q from to in (suc rest.0, rest.1, rest.2)

module _ (new : ℕ) (heights : List ℕ) (q : ℕ) where
  pub planned-fixed : q < new → planned_lane heights new q ≡ q
  planned-fixed low = cond-true (ltb q new) q (new + slice_index heights q - 1) (lt-ltb q new low)

  pub planned-new : new ≤ q → planned_lane heights new q ≡ new + slice_index heights q - 1
  planned-new from = cond-false (ltb q new) q (new + slice_index heights q - 1) (le-ltb q new from)

-- all of them are below the number of lanes
pub planned-within : (new : ℕ) (heights : List ℕ) (most : ℕ) (lanes : List ℕ) → All (λ q. q < length heights) lanes
    → ((q : ℕ) → new ≤ q → q < length heights → (0 < slice_index heights q) × (slice_index heights q ≤ most))
    → All (λ l. l < new + most) (map (planned_lane heights new) lanes)
planned-within new heights most lanes within each =
    All-map (λ l. l < new + most) (planned_lane heights new) lanes (λ k e fits.
    let q : ℕ = get_or lanes k e in
    elim (cases_lt q new) [
      | inl low ↦ omega (arith, low, planned-fixed new heights q low)
      | inr from ↦
          let height = each q from (within k e fits) in
          omega (arith, planned-new new heights q from, height.0, height.1)
    ])

module _ (d : Declaration) (f : Fixed) (fixed : IsFixed d.groups f) (heights : List ℕ)
    (sound : IsGraph (start_graph d f))
    (long : length (start_graph d f) ≡ (start f).assignment.lanes) (are : AreHeights (start_graph d f) f heights)
    (most : ℕ)
    (above : (q : ℕ) → fixed_lanes f ≤ q → q < length heights → slice_index heights q ≤ most) where
  abbrev lane : ℕ → ℕ
  lane g = group_lane (start f).assignment g

  assigned : IsAssignment d.groups (start f).assignment
  assigned = (IsAssignmentOf-start d.groups f fixed).assignment

  pub planned-at : (g : ℕ) → g < d.groups → group_lane (planned f heights most).assignment g
      ≡ planned_lane heights (fixed_lanes f) (lane g)
  planned-at g group =
      get_or-map (planned_lane heights (fixed_lanes f)) (start f).assignment.lane_of_group g 0 0
      (omega (arith, group, assigned.one_each))

  group-within : (g : ℕ) (o : Option ℕ) → slice_get f.lane_of_group g ≡ Some o → g < d.groups
  group-within g o at =
      let inside : g < length f.lane_of_group = slice_get_within f.lane_of_group g o at in
      omega (arith, inside, fixed.one_each)

  pub lane-within : (g : ℕ) → g < d.groups → lane g < length (start_graph d f)
  lane-within g group =
      let below : lane g < (start f).assignment.lanes = assigned.within g 0 (omega (arith, group, assigned.one_each)) in
      omega (arith, below, long)

  -- a free group is on the new workqueue of its height
  planned-free : (g : ℕ) → IsFree f g → (0 < slice_index heights (lane g))
      × (group_lane (planned f heights most).assignment g ≡ fixed_lanes f + slice_index heights (lane g) - 1)
  planned-free g free =
      let group = group-within g None free in
      let from : fixed_lanes f ≤ lane g = (Keeps-start d.groups f fixed).new g free in (
        heights-new (start_graph d f) f heights sound are (lane g) from (lane-within g group),
        planned-at g group ∙ planned-new (fixed_lanes f) heights (lane g) from,
      )

  pub Keeps-planned : Keeps f (planned f heights most)
  Keeps-planned = record {
    lanes = omega arith;
    bare = λ q within. refl;
    stays = λ g q at.
        planned-at g (group-within g (Some q) at)
        ∙ ap (planned_lane heights (fixed_lanes f)) ((Keeps-start d.groups f fixed).stays g q at)
        ∙ planned-fixed (fixed_lanes f) heights q (fixed.within g q at);
    new = λ g free. let is = planned-free g free in omega (arith, is.0, is.1);
  }

  pub IsAssignment-planned : IsAssignment d.groups (planned f heights most).assignment
  IsAssignment-planned =
      let lanes : List ℕ = (start f).assignment.lane_of_group in
      record {
        one_each = length-map lanes (planned_lane heights (fixed_lanes f)) ∙ assigned.one_each;
        within = planned-within (fixed_lanes f) heights most lanes
            (subst (λ (n : ℕ). All (λ q. q < n) lanes) (sym (are.one_each ∙ long)) assigned.within)
            (λ q from inside. (
              heights-new (start_graph d f) f heights sound are q from (omega (arith, inside, are.one_each)),
              above q from inside,
            ));
      }

  module _ (down : AllLeadDown (start_graph d f) (fixed_lanes f) heights)
      (top : 0 < most → (q : ℕ) × IsTop (fixed_lanes f) heights most q) where
    -- a new lane of the start for each new one
    held-lane : (q : ℕ) → fixed_lanes f ≤ q → q < fixed_lanes f + most → (p : ℕ) × (fixed_lanes f ≤ p)
        × (slice_index heights p + fixed_lanes f ≡ q + 1)
    held-lane q from below =
        let first = top (omega (arith, from, below)) in
        let chain = down first.0 (omega (arith, first.1.2, from, below)) in
        let found = down-passes (start_graph d f) (fixed_lanes f) heights (q + 1 - fixed_lanes f) first.0 chain.0
        chain.1 (omega (arith, from)) (omega (arith, first.1.2, from, below)) in
        (found.0, found.1, omega (arith, found.2, from))

    pub IsPlanAround-planned : IsPlanAround d f (planned f heights most)
    IsPlanAround-planned = record {
      keeps = Keeps-planned;
      heights = λ g n free is.
          let put = planned-free g free in
          let vertex = lane-within g (group-within g None free) in
          let same = IsHeight-unique (start_graph d f) f (lane g) (slice_index heights (lane g)) n
          (are.greatest (lane g) vertex) is in
          omega (arith, put.0, put.1, same);
      held = λ q from below.
          let p = held-lane q from below in
          let some : 0 < slice_index heights p.0 = omega (arith, p.2, from) in
          let vertex : p.0 < length (start_graph d f) = heights-within (start_graph d f) f heights sound are p.0 some in
          let free = free_group (fixed_lanes f) f.lane_of_group p.0 p.1
          (omega (arith, vertex, long, count_free-is f.lane_of_group)) in
          let put = planned-free free.0 free.1 in
          let height : slice_index heights (lane free.0) ≡ slice_index heights p.0 = ap (slice_index heights) free.2 in
          (free.0, free.1, omega (arith, put.0, put.1, height, p.2));
    }
