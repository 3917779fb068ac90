-- A chain of the start, and workqueues that keep the fixed ones and have fewer new ones than it.
use Rattle.std.proofs.Common.{◌≡◌, ℕ, ◌+◌, ◌-◌, ◌<◌, ◌≤◌, inl, inr, cond, ltb, nat_le, List, [], ◌∷◌}
use Rattle.std.proofs.Common.{length, map, Some, None, refl, sym, ap, ◌∙◌, arith}
use Rattle.std.specs.Prelude.{slice_get}
use Rattle.std.specs.List.{All, AllByRecursion}
use Rattle.std.proofs.lemmas.Option.{slice_get_within}
use Rattle.std.proofs.lemmas.Bool.{cases_lt, lt-ltb, le-ltb, le-leb, lt-leb, cond-true, cond-false}
use Rattle.std.proofs.lemmas.List.Elements.{recursion_from_All}
use Rattle.std.proofs.lemmas.List.Recursion.{is_count_by}
use Rattle.wq_items.specs.Chain.{IsChain, Circle}
use Rattle.wq_groups.specs.Declaration.{Declaration, IsDeclaration}
use Rattle.wq_groups.specs.Assignment.{IsAssignment}
use Rattle.wq_core.specs.Wiring.{RescuedWaits}
use Rattle.wq_core.specs.Workqueues.{Workqueues, wiring_of}
use Rattle.wq_fixed.specs.Fixed.{Fixed, IsFixed, Keeps, fixed_lanes, new_among, start}
use Rattle.wq_fixed.proofs.StartLanes.{count_free-is, lane_for, lane_for-within}
use Rattle.wq_fixed.proofs.Kept.{lane_now, waits_here}
use Rattle.wq_fixed.proofs.Fewest.{count_from, again_from, circle_from_again, IsChain-map}

-- how many of these numbers are from `least` on
abbrev count_new : ℕ → List ℕ → ℕ
count_new least [] = 0
count_new least (q ∷ qs) = cond (nat_le least q) (1 + count_new least qs) (count_new least qs)

module _ (d : Declaration) (f : Fixed) (ws : Workqueues) (declaration : IsDeclaration d) (fixed : IsFixed d.groups f)
    (assignment : IsAssignment d.groups ws.assignment) (keeps : Keeps f ws) where
  -- the lane that stands for a lane of the start
  abbrev now : ℕ → ℕ
  now = lane_now d f ws declaration fixed assignment keeps

  now-fixed : (q : ℕ) → q < fixed_lanes f → now q ≡ q
  now-fixed q low = cond-true (ltb q (fixed_lanes f)) q (lane_for (fixed_lanes f) f.lane_of_group
      ws.assignment.lane_of_group q) (lt-ltb q (fixed_lanes f) low)

  now-new : (q : ℕ) → fixed_lanes f ≤ q → q < (start f).assignment.lanes → (fixed_lanes f ≤ now q)
      × (now q < ws.assignment.lanes)
  now-new q high within =
      let there = lane_for-within (fixed_lanes f) f.lane_of_group ws.assignment.lane_of_group q (fixed_lanes f)
      ws.assignment.lanes (omega (arith, assignment.one_each, fixed.one_each)) high
      (omega (arith, count_free-is f.lane_of_group))
      (λ g free. (keeps.new g free, assignment.within g 0 (group_within g free))) in
      let is : now q ≡ lane_for (fixed_lanes f) f.lane_of_group ws.assignment.lane_of_group q =
      cond-false (ltb q (fixed_lanes f)) q (lane_for (fixed_lanes f) f.lane_of_group ws.assignment.lane_of_group q)
      (le-ltb q (fixed_lanes f) high) in
      let low : fixed_lanes f ≤ lane_for (fixed_lanes f) f.lane_of_group ws.assignment.lane_of_group q = there.0 in
      let few : lane_for (fixed_lanes f) f.lane_of_group ws.assignment.lane_of_group q < ws.assignment.lanes =
      there.1 in
      (omega arith, omega arith)
    where
      group_within : (g : ℕ) → slice_get f.lane_of_group g ≡ Some None → g < length ws.assignment.lane_of_group
      group_within g free = let inside : g < length f.lane_of_group =
          slice_get_within f.lane_of_group g None free in omega (arith, assignment.one_each, fixed.one_each)

  all_now : (qs : List ℕ) → AllByRecursion (λ q. q < (start f).assignment.lanes) qs
      → AllByRecursion (λ x. x < fixed_lanes f + (ws.assignment.lanes - fixed_lanes f)) (map now qs)
  all_now [] below = tt
  all_now (q ∷ qs) below = (
    elim (cases_lt q (fixed_lanes f)) [
      | inl low ↦ let is : now q ≡ q = now-fixed q low in omega (arith, keeps.lanes)
      | inr high ↦ let few : now q < ws.assignment.lanes = (now-new q high below.0).1 in omega (arith, keeps.lanes)
    ],
    all_now qs below.1,
  )

  count_now : (qs : List ℕ) → AllByRecursion (λ q. q < (start f).assignment.lanes) qs
      → count_from (fixed_lanes f) (map now qs) ≡ count_new (fixed_lanes f) qs
  count_now [] below = refl
  count_now (q ∷ qs) below = elim (cases_lt q (fixed_lanes f)) [
    | inl low ↦
        let is : now q ≡ q = now-fixed q low in
        cond-true (ltb (now q) (fixed_lanes f)) (count_from (fixed_lanes f) (map now qs))
        (1 + count_from (fixed_lanes f) (map now qs)) (lt-ltb (now q) (fixed_lanes f) (omega arith))
        ∙ count_now qs below.1
        ∙ sym (cond-false (nat_le (fixed_lanes f) q) (1 + count_new (fixed_lanes f) qs) (count_new (fixed_lanes f) qs)
        (lt-leb (fixed_lanes f) q low))
    | inr high ↦
        let from : fixed_lanes f ≤ now q = (now-new q high below.0).0 in
        cond-false (ltb (now q) (fixed_lanes f)) (count_from (fixed_lanes f) (map now qs))
        (1 + count_from (fixed_lanes f) (map now qs)) (le-ltb (now q) (fixed_lanes f) from)
        ∙ ap (λ (n : ℕ). 1 + n) (count_now qs below.1)
        ∙ sym (cond-true (nat_le (fixed_lanes f) q) (1 + count_new (fixed_lanes f) qs) (count_new (fixed_lanes f) qs)
        (le-leb (fixed_lanes f) q high))
  ]

  new_among-is : (qs : List ℕ) → count_new (fixed_lanes f) qs ≡ new_among f qs
  new_among-is = is_count_by (count_new (fixed_lanes f)) (λ q. nat_le (fixed_lanes f) q) refl (λ q qs. refl)

  pub Circle-fewer : (qs : List ℕ) → IsChain (RescuedWaits (wiring_of d (start f))) qs
      → All (λ q. q < (start f).assignment.lanes) qs → ws.assignment.lanes < fixed_lanes f + new_among f qs
      → Circle (RescuedWaits (wiring_of d ws))
  Circle-fewer qs chain within few =
      let below = recursion_from_All (λ q. q < (start f).assignment.lanes) qs within in
      let mapped = IsChain-map (RescuedWaits (wiring_of d (start f))) (RescuedWaits (wiring_of d ws)) now
      (waits_here d f ws declaration fixed assignment keeps) qs chain in
      let count : count_from (fixed_lanes f) (map now qs) ≡ new_among f qs = count_now qs below ∙ new_among-is qs in
      circle_from_again (RescuedWaits (wiring_of d ws)) (map now qs) mapped
      (again_from (fixed_lanes f) (ws.assignment.lanes - fixed_lanes f) (map now qs) (all_now qs below)
      (omega (arith, keeps.lanes, few, count)))
