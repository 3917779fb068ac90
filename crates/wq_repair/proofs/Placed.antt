-- What is placed is to be compared, all its changes are needed, and numbers fall along all waits.
use Rattle.std.proofs.Common.{◌≡◌, ℕ, ◌<◌, ◌⊎◌, inl, inr, Bool, List, length, refl, sym, subst, ◌∙◌, arith}
use Rattle.std.specs.Prelude.{slice_index}
use Rattle.std.proofs.lemmas.Bool.{false≢true}
use Rattle.std.proofs.lemmas.List.{get_or_default}
use Rattle.wq_groups.specs.Declaration.{Declaration, IsDeclaration, GroupWaits}
use Rattle.wq_groups.specs.Assignment.{IsAssignment}
use Rattle.wq_core.specs.Workqueues.{Workqueues}
use Rattle.wq_repair.specs.Changes.{IsRescued, IsBare, IsNamedLane, HasMoved, IsGiven, IsToBeCompared, lane_in}
use Rattle.wq_repair.specs.Marks.{IsMarked, Marks}
use Rattle.wq_repair.specs.Joined.{HasToLeave, IsTriedInVain, AreChangesNeeded, FallsAlongWaits}
use Rattle.wq_repair.specs.Steps.{IsToBeGiven, ArePlacedBy, AreLeaving}
use Rattle.wq_repair.proofs.Rescuers.{cases_rescued, waiting-below, awaited-below}
use Rattle.wq_repair.proofs.Marks.{cases_marked}

module _ (d : Declaration) (old new : Workqueues) (names : List ℕ) (named_lanes needed given stays leaves : List Bool) (ranks : List ℕ) (before : IsAssignment d.groups old.assignment)
    (are_lanes : Marks (IsNamedLane d old names) old.assignment.lanes named_lanes)
    (one_each : length needed ≡ d.groups)
    (are_given : Marks (IsToBeGiven old named_lanes needed) old.assignment.lanes given)
    (leaving : AreLeaving d old names needed given leaves ranks new)
    (by : ArePlacedBy old given stays leaves ranks new) where
  below : (g : ℕ) → g < d.groups → g < length leaves
  below g is = omega (arith, is, leaving.one_each)

  lane_below : (g : ℕ) → g < d.groups → lane_in old g < old.assignment.lanes
  lane_below g is = before.within g 0 (omega (arith, is, before.one_each))

  is_to_be_given : (g : ℕ) → g < d.groups → IsMarked given (lane_in old g) → IsToBeGiven old named_lanes needed (lane_in old g)
  is_to_be_given g is marked = (are_given.exactly (lane_in old g) (lane_below g is)).0 marked

  given_needed : (g : ℕ) → g < d.groups → IsMarked given (lane_in old g) → IsMarked needed g
  given_needed g is marked = (is_to_be_given g is marked).all g (omega (arith, is, one_each)) refl

  moved_leaves : (g : ℕ) → g < d.groups → HasMoved old new g → IsMarked leaves g
  moved_leaves g is moved = elim (cases_marked leaves g) [ inl marked ↦ marked | inr not ↦ absurd (moved (by.stay g (below g is) not)) ]

  -- a lane that is given a rescuer was to be given one
  given_marked : (g : ℕ) → g < d.groups → IsBare old (lane_in old g) → IsRescued new (lane_in old g) → IsMarked given (lane_in old g)
  given_marked g is bare rescued = elim (by.only g (below g is) rescued) [ inl had ↦ absurd (false≢true (sym had ∙ bare)) | inr marked ↦ marked ]

  given_named : (q : ℕ) → IsGiven d old new q → IsNamedLane d old names q
  given_named q is =
      let g : ℕ = is.group in
      let marked = given_marked g is.is_group (subst (IsBare old) (sym is.was) is.bare) (subst (IsRescued new) (sym is.was) is.rescued) in
      subst (IsNamedLane d old names) is.was ((are_lanes.exactly (lane_in old g) (lane_below g is.is_group)).0 (is_to_be_given g is.is_group marked).named)

  assignment : IsAssignment d.groups new.assignment
  assignment = record {
    one_each = by.one_each ∙ leaving.one_each;
    within = λ k e lt. subst (λ (l : ℕ). l < new.assignment.lanes) (get_or_default new.assignment.lane_of_group k 0 e lt) (by.within k (omega (arith, lt, by.one_each)));
  }

  pub IsToBeCompared-placed : IsToBeCompared d old names new
  IsToBeCompared-placed = record {
    assignment = assignment;
    lanes = by.more;
    kept = λ q lt rescued. by.kept q rescued;
    onto_rescuers = λ g is moved. by.rescued g (below g is) (moved_leaves g is moved);
    moved_named = λ g is moved. (leaving.movable g is (moved_leaves g is moved)).0;
    given_named = given_named;
  }

  reason : (g : ℕ) → g < d.groups → IsMarked leaves g → HasToLeave old new needed g ⊎ IsTriedInVain d old new needed g
  reason g is marked = elim (leaving.why g is marked) [
    | inr vain ↦ inr vain
    | inl bare ↦ inl (record {
      needs = (leaving.movable g is marked).1;
      bare = bare.0;
      still_bare = elim (cases_rescued new (lane_in old g)) [
        | inl rescued ↦ absurd (bare.1 (given_marked g is bare.0 rescued))
        | inr still ↦ still
      ];
    })
  ]

  pub AreChangesNeeded-placed : AreChangesNeeded d old new needed
  AreChangesNeeded-placed = record {
    moved = λ g is moved. reason g is (moved_leaves g is moved);
    given = λ g is one. given_needed g is (given_marked g is one.bare one.rescued);
  }

  needed_only : (g : ℕ) → g < d.groups → IsRescued new (lane_in new g) → IsMarked needed g
  needed_only g is rescued = elim (cases_marked leaves g) [
    | inl marked ↦ (leaving.movable g is marked).1
    | inr not ↦ elim (by.only g (below g is) (subst (IsRescued new) (by.stay g (below g is) not) rescued)) [
      | inl had ↦ leaving.first g is had
      | inr marked ↦ given_needed g is marked
    ]
  ]

  has_rescuer : (g : ℕ) → g < d.groups → IsMarked needed g → IsRescued new (lane_in new g)
  has_rescuer g is needs = elim (cases_marked leaves g) [
    | inl marked ↦ by.rescued g (below g is) marked
    | inr not ↦ subst (IsRescued new) (sym (by.stay g (below g is) not)) (elim (leaving.others g is needs not) [
      | inl had ↦ by.kept (lane_in old g) had
      | inr marked ↦ by.given_one g (below g is) not marked
    ])
  ]

  module _ (declaration : IsDeclaration d) (number : ℕ → ℕ) (ranked : (g : ℕ) → g < d.groups → IsMarked needed g → number (lane_in new g) ≡ slice_index ranks g) where
    lower : (g h : ℕ) → GroupWaits d g h → IsMarked needed g → number (lane_in new h) < number (lane_in new g)
    lower g h waits needs = omega (
      arith,
      ranked g (waiting-below d declaration g h waits) needs,
      ranked h (awaited-below d declaration g h waits) (leaving.next g h waits needs),
      leaving.fall g h waits needs,
    )

    pub FallsAlongWaits-placed : FallsAlongWaits d new needed number
    FallsAlongWaits-placed = record { only = needed_only; rescued = has_rescuer; next = leaving.next; falls = lower }
