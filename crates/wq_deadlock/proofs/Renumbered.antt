-- Lanes by their first groups: however many lanes there are, as many as there are groups decide whether it is safe.
use Rattle.std.proofs.Common.{◌≡◌, ℕ, zero, suc, ◌<◌, ◌≤◌, ◌⊎◌, inl, inr, cond, eqb, List, [], ◌∷◌, length, map, get_or, Some, refl, sym, ap, subst, ◌∙◌, arith}
use Rattle.std.specs.Prelude.{Contains, slice_index, slice_get}
use Rattle.std.proofs.lemmas.Bool.{cases_eq, cond-true, cond-false, eq-eqb, ne_eqb}
use Rattle.std.proofs.lemmas.List.{length-map, get_or-map}
use Rattle.std.proofs.lemmas.List.Elements.{All-map, Contains-get_or}
use Rattle.std.proofs.lemmas.Option.{slice_get-get_or, slice_get_within, get_or_from_slice_get}
use Rattle.wq_groups.specs.Declaration.{Declaration, IsDeclaration}
use Rattle.wq_groups.specs.Assignment.{Assignment, IsAssignment, group_lane, item_lanes}
use Rattle.wq_groups.proofs.Declarations.{waiting-item, awaited-item}
use Rattle.wq_graph.specs.declared.arc.WaitArc.{WaitArc}
use Rattle.wq_graph.specs.Graph.{lane_graph}
use Rattle.wq_graph.proofs.Graphs.{IsGraph-lane_graph}
use Rattle.wq_levels.specs.Ranks.{AreRanks}
use Rattle.wq_levels.specs.Walks.{IsWalkedCircle}
use Rattle.wq_levels.proofs.Existence.{AreRanks-or_walk}
use Rattle.wq_core.specs.declared.step.Step.{Step}
use Rattle.wq_core.specs.Wiring.{Wiring, LaneWaits, wiring, with_helpers, lane_of}
use Rattle.wq_core.specs.Deadlock.{IsSafe, DeadlocksBy, Deadlocks}
use Rattle.wq_core.proofs.CircleKnots.{Deadlocks-circle}
use Rattle.wq_core.proofs.LaneCircles.{Circle-map}
use Rattle.wq_core.proofs.Safety.{IsSafe-falls}
use Rattle.wq_core.proofs.Wirings.{IsWiring-wiring}
use Rattle.wq_deadlock.proofs.Verdicts.{fall, lanes_wait}

-- what deadlocks isn't safe, not even without helpers
pub not_safe-by : (w : Wiring) (steps : List Step) → DeadlocksBy (with_helpers w 0) steps → ¬ IsSafe w
not_safe-by w steps by safe = safe 0 (omega arith) steps by.run by.stuck

pub not_safe-deadlocks : (w : Wiring) → Deadlocks w → ¬ IsSafe w
not_safe-deadlocks w deadlocks = not_safe-by w deadlocks.0 (deadlocks.1 0 (omega arith))

-- ---- the first group on a lane

-- the first place of lane l among these; if it has none, how many there are
first_on : List ℕ → ℕ → ℕ
first_on [] l = 0
first_on (x ∷ xs) l = cond (eqb x l) 0 (suc (first_on xs l))

first_on-is : (ls : List ℕ) (l : ℕ) → Contains ls l → (first_on ls l < length ls) × (get_or ls (first_on ls l) 0 ≡ l)
unfolding first_on
first_on-is [] l (k, lt, at) = absurd (omega arith)
first_on-is (x ∷ xs) l there = elim (cases_eq x l) [
  | inl same ↦ (
      let at : first_on (x ∷ xs) l ≡ 0 = cond-true {A = ℕ} (eqb x l) 0 (suc (first_on xs l)) (eq-eqb x l same) in
      (omega (arith, at), ap (λ (k : ℕ). get_or (x ∷ xs) k 0) at ∙ same)
      )
  | inr other ↦ (
      let at : first_on (x ∷ xs) l ≡ suc (first_on xs l) = cond-false {A = ℕ} (eqb x l) 0 (suc (first_on xs l)) (ne_eqb x l other) in
      let rest = first_on-is xs l (later x xs l other there) in
      (omega (arith, at, rest.0), ap (λ (k : ℕ). get_or (x ∷ xs) k 0) at ∙ rest.1)
      )
]
  where
    later : (x : ℕ) (xs : List ℕ) (l : ℕ) → (x ≡ l → ⊥) → Contains (x ∷ xs) l → Contains xs l
    later x xs l other (zero, lt, at) = absurd (other at)
    later x xs l other (suc k, lt, at) = (k, omega arith, at)

module _ (d : Declaration) (a : Assignment) (declaration : IsDeclaration d) (assignment : IsAssignment d.groups a) where
  -- ---- the assignment by first groups

  -- the first group on the lane of a group
  abbrev first_group : ℕ → ℕ
  first_group q = first_on a.lane_of_group q

  abbrev b : Assignment
  b = record { lanes = d.groups; lane_of_group = map first_group a.lane_of_group }

  one_each : IsAssignment d.groups b
  one_each = record {
    one_each = length-map a.lane_of_group first_group ∙ assignment.one_each;
    within = All-map (λ q. q < d.groups) first_group a.lane_of_group (λ k e lt.
        let is = first_on-is a.lane_of_group (get_or a.lane_of_group k e) (Contains-get_or a.lane_of_group k e lt) in
        omega (arith, is.0, assignment.one_each)
        );
  }

  few : d.groups ≤ 4096
  few = omega (arith, declaration.partition.few_groups, declaration.partition.few_items)

  -- ---- the lanes of an item in the one and in the other

  module _ (i : ℕ) (item : i < length d.group_of) where
    group_below : get_or d.group_of i 0 < length a.lane_of_group
    group_below = omega (arith, declaration.partition.within i 0 item, assignment.one_each)

    lane_a : lane_of (wiring d a) i ≡ get_or a.lane_of_group (get_or d.group_of i 0) 0
    lane_a = get_or-map (group_lane a) d.group_of i 0 0 item

    lane_b : lane_of (wiring d b) i ≡ first_group (lane_of (wiring d a) i)
    lane_b =
        get_or-map (group_lane b) d.group_of i 0 0 item
        ∙ get_or-map first_group a.lane_of_group (get_or d.group_of i 0) 0 0 group_below
        ∙ ap first_group (sym lane_a)

    back : group_lane a (lane_of (wiring d b) i) ≡ lane_of (wiring d a) i
    back =
        ap (group_lane a) lane_b
        ∙ (first_on-is a.lane_of_group (lane_of (wiring d a) i) (subst (λ (l : ℕ). Contains a.lane_of_group l) (sym lane_a) (Contains-get_or a.lane_of_group (get_or d.group_of i 0) 0 group_below))).1

  item_below : (i q : ℕ) → slice_get (item_lanes b d.group_of) i ≡ Some q → i < length d.group_of
  item_below i q at = omega (arith, slice_get_within (item_lanes b d.group_of) i q at, length-map d.group_of (group_lane b))

  there : (i q : ℕ) → slice_get (item_lanes b d.group_of) i ≡ Some q → slice_get (item_lanes a d.group_of) i ≡ Some (group_lane a q)
  there i q at =
      let item : i < length d.group_of = item_below i q at in
      let read : lane_of (wiring d b) i ≡ q = get_or_from_slice_get (item_lanes b d.group_of) i q 0 at in
      slice_get-get_or (item_lanes a d.group_of) i 0 (omega (arith, item, length-map d.group_of (group_lane a)))
      ∙ ap (λ (l : ℕ). Some l) (sym (back i item) ∙ ap (group_lane a) read)

  LaneWaits-back : (p q : ℕ) → LaneWaits (wiring d b) p q → LaneWaits (wiring d a) (group_lane a p) (group_lane a q)
  LaneWaits-back p q waits = record {
    item = waits.item;
    target = waits.target;
    declares = waits.declares;
    of_item = there waits.item p waits.of_item;
    of_target = there waits.target q waits.of_target;
  }

  -- ---- safe, or deadlocking

  IsSafe-renumbered : (ranks : List ℕ) → AreRanks (lane_graph d b) ranks → IsSafe (wiring d a)
  IsSafe-renumbered ranks are =
      IsSafe-falls (wiring d a) (λ q. slice_index ranks (first_group q)) refl (λ i j declares.
      let item : i < length d.group_of = waiting-item d declaration i j declares in
      let target : j < length d.group_of = awaited-item d declaration i j declares in
      subst (λ (p : ℕ). slice_index ranks p < slice_index ranks (first_group (lane_of (wiring d a) i))) (lane_b j target)
      (subst (λ (p : ℕ). slice_index ranks (lane_of (wiring d b) j) < slice_index ranks p) (lane_b i item) (fall d b declaration one_each few ranks are i j declares))
      )

  Deadlocks-renumbered : (circle : List WaitArc) → IsWalkedCircle (lane_graph d b) circle → Deadlocks (wiring d a)
  Deadlocks-renumbered circle walked =
      Deadlocks-circle (wiring d a) (IsWiring-wiring d a declaration assignment) refl
      (Circle-map (LaneWaits (wiring d b)) (LaneWaits (wiring d a)) (group_lane a) LaneWaits-back (lanes_wait d b declaration one_each few circle walked))

  pub IsSafe-or_deadlocks : IsSafe (wiring d a) ⊎ Deadlocks (wiring d a)
  IsSafe-or_deadlocks = elim (AreRanks-or_walk (lane_graph d b) (IsGraph-lane_graph d b declaration one_each few)) [
    | inl ranks ↦ inl (IsSafe-renumbered ranks.0 ranks.1)
    | inr circle ↦ inr (Deadlocks-renumbered circle.0 circle.1)
  ]

  pub Deadlocks-not_safe : (¬ IsSafe (wiring d a)) → Deadlocks (wiring d a)
  Deadlocks-not_safe unsafe = elim IsSafe-or_deadlocks [
    | inl safe ↦ absurd (unsafe safe)
    | inr deadlocks ↦ deadlocks
  ]
