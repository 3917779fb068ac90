-- The start that is made of lists is the start.
use Rattle.std.proofs.Common.{ℕ, ◌<◌, inl, inr, Bool, false, List, length, refl, sym, subst, ◌∙◌, arith}
use Rattle.std.proofs.lemmas.Bool.{false≢true}
use Rattle.std.proofs.lemmas.List.{get_or_default}
use Rattle.wq_groups.specs.Declaration.{Declaration}
use Rattle.wq_groups.specs.Assignment.{IsAssignment}
use Rattle.wq_core.specs.Workqueues.{Workqueues}
use Rattle.wq_repair.specs.Changes.{IsRescued, IsBare, IsNamed, IsNamedLane, HasMoved, IsGiven, IsToBeCompared, lane_in}
use Rattle.wq_repair.specs.Needed.{BringsAlong, NeedsRescuerOf}
use Rattle.wq_repair.specs.Marks.{IsMarked, Marks}
use Rattle.wq_repair.specs.Joined.{IsStart}
use Rattle.wq_repair.specs.Steps.{IsToBeGiven, IsMovable, IsStartBy}
use Rattle.wq_repair.proofs.Marks.{cases_marked}
use Rattle.wq_repair.proofs.Rescuers.{cases_rescued, IsLedTo-first, IsLedTo-next}

module _ (d : Declaration) (old start : Workqueues) (names : List ℕ) (named named_lanes needed movable given : List Bool) (before : IsAssignment d.groups old.assignment)
    (are_named : Marks (IsNamed d names) d.groups named)
    (are_lanes : Marks (IsNamedLane d old names) old.assignment.lanes named_lanes)
    (are_needed : Marks (NeedsRescuerOf d old names) d.groups needed)
    (are_movable : Marks (IsMovable named needed) d.groups movable)
    (are_given : Marks (IsToBeGiven old named_lanes needed) old.assignment.lanes given)
    (by : IsStartBy old movable given start) where
  below : (g : ℕ) → g < d.groups → g < length movable
  below g is = omega (arith, is, are_movable.one_each)

  lane_below : (g : ℕ) → g < d.groups → lane_in old g < old.assignment.lanes
  lane_below g is = before.within g 0 (omega (arith, is, before.one_each))

  movable_named : (g : ℕ) → g < d.groups → IsMarked movable g → IsNamed d names g
  movable_named g is marked = ((are_named.exactly g is).0 ((are_movable.exactly g is).0 marked).0)

  movable_needed : (g : ℕ) → g < d.groups → IsMarked movable g → NeedsRescuerOf d old names g
  movable_needed g is marked = ((are_needed.exactly g is).0 ((are_movable.exactly g is).0 marked).1)

  is_movable : (g : ℕ) → g < d.groups → IsNamed d names g → NeedsRescuerOf d old names g → IsMarked movable g
  is_movable g is named_g needed_g = (are_movable.exactly g is).1 ((are_named.exactly g is).1 named_g, (are_needed.exactly g is).1 needed_g)

  given_needed : (g : ℕ) → g < d.groups → IsMarked given (lane_in old g) → NeedsRescuerOf d old names g
  given_needed g is marked = (are_needed.exactly g is).0 (((are_given.exactly (lane_in old g) (lane_below g is)).0 marked).all g (omega (arith, is, are_needed.one_each)) refl)

  needed_only : (g : ℕ) → g < d.groups → IsRescued start (lane_in start g) → NeedsRescuerOf d old names g
  needed_only g is rescued = elim (cases_marked movable g) [
    | inl marked ↦ movable_needed g is marked
    | inr not ↦ elim (by.only g (below g is) not (subst (IsRescued start) (by.stay g (below g is) not) rescued)) [
      | inl had ↦ IsLedTo-first d old (BringsAlong d old names) g is had
      | inr marked ↦ given_needed g is marked
    ]
  ]

  moved_movable : (g : ℕ) → g < d.groups → HasMoved old start g → IsMarked movable g
  moved_movable g is moved = elim (cases_marked movable g) [ inl marked ↦ marked | inr not ↦ absurd (moved (by.stay g (below g is) not)) ]

  given_named : (q : ℕ) → IsGiven d old start q → IsNamedLane d old names q
  given_named q is = elim (cases_marked movable is.group) [
    | inl marked ↦ record { group = is.group; is_group = is.is_group; named = movable_named is.group is.is_group marked; on = is.was }
    | inr not ↦ elim (by.only is.group (below is.group is.is_group) not (subst (IsRescued start) (sym is.was) is.rescued)) [
      | inl had ↦ absurd (false≢true (sym had ∙ subst (IsBare old) (sym is.was) is.bare))
      | inr marked ↦
          let lane : IsNamedLane d old names (lane_in old is.group) =
          (are_lanes.exactly (lane_in old is.group) (lane_below is.group is.is_group)).0 ((are_given.exactly (lane_in old is.group) (lane_below is.group is.is_group)).0 marked).named in
          subst (IsNamedLane d old names) is.was lane
    ]
  ]

  assignment : IsAssignment d.groups start.assignment
  assignment = record {
    one_each = by.one_each ∙ are_movable.one_each;
    within = λ k e lt. subst (λ (l : ℕ). l < start.assignment.lanes) (get_or_default start.assignment.lane_of_group k 0 e lt) (by.within k (omega (arith, lt, by.one_each)));
  }

  compared : IsToBeCompared d old names start
  compared = record {
    assignment = assignment;
    lanes = by.more;
    kept = λ q lt rescued. by.kept q rescued;
    onto_rescuers = λ g is moved. by.rescued g (below g is) (moved_movable g is moved);
    moved_named = λ g is moved. movable_named g is (moved_movable g is moved);
    given_named = given_named;
  }

  -- a lane that may be given a rescuer, on which a group stays that needs one: all on it need one
  given_stays : (g : ℕ) → g < d.groups → (¬ IsNamed d names g) → NeedsRescuerOf d old names g → IsNamedLane d old names (lane_in old g) → IsRescued start (lane_in old g)
  given_stays g is unnamed needed_g lane = elim (cases_rescued old (lane_in old g)) [
    | inl had ↦ by.kept (lane_in old g) had
    | inr bare ↦ by.given_one (lane_in old g)
        ((are_given.exactly (lane_in old g) (lane_below g is)).1 (record {
          bare = bare;
          named = (are_lanes.exactly (lane_in old g) (lane_below g is)).1 lane;
          all = λ h lt on. (are_needed.exactly h (omega (arith, lt, are_needed.one_each))).1 (IsLedTo-next d old (BringsAlong d old names) g h needed_g (inr (record {
            unnamed = unnamed;
            bare = bare;
            named_lane = lane;
            is_group = omega (arith, lt, are_needed.one_each);
            beside = on;
          })));
        }))
        (record { group = g; is_group = below g is; other = λ marked. unnamed (movable_named g is marked); on = refl })
  ]

  pub IsStart-by : IsStart d old names start
  IsStart-by = record {
    compared = compared;
    needed = needed_only;
    rescued = λ g is named_g needed_g. by.rescued g (below g is) (is_movable g is named_g needed_g);
    alone = λ g h is_g is_h named_g needed_g same. by.alone g h (below g is_g) (below h is_h) (is_movable g is_g named_g needed_g) same;
    given = given_stays;
  }
