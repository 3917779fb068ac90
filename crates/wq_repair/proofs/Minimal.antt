-- No change can be left out.
use Rattle.std.proofs.Common.{◌≡◌, ℕ, ◌<◌, ◌⊎◌, inl, inr, Bool, List, refl, sym, ap, subst, ◌∙◌}
use Rattle.std.proofs.lemmas.Bool.{false≢true}
use Rattle.wq_groups.specs.Declaration.{Declaration, IsDeclaration}
use Rattle.wq_core.specs.Workqueues.{Workqueues, wiring_of}
use Rattle.wq_core.specs.Deadlock.{Deadlocks}
use Rattle.wq_repair.specs.Changes.{IsRescued, HasMoved, IsGiven, IsToBeCompared, HasFewerChanges, lane_in}
use Rattle.wq_repair.specs.Marks.{IsMarked}
use Rattle.std.specs.Prelude.{slice_index}
use Rattle.wq_repair.specs.Joined.{HasToLeave, StaysOrIs, IsTriedInVain, AreChangesNeeded}
use Rattle.wq_repair.proofs.Rescuers.{stays-not_moved, Deadlocks-as_vertices}

module _ (d : Declaration) (old new fewer : Workqueues) (names : List ℕ) (needed : List Bool) (declaration : IsDeclaration d)
    (has : (g : ℕ) → g < d.groups → IsMarked needed g → IsRescued fewer (lane_in fewer g) ⊎ Deadlocks (wiring_of d fewer))
    (are : AreChangesNeeded d old new needed) (compared : IsToBeCompared d old names fewer) (less : HasFewerChanges d old fewer new) where
  abbrev D : Type 0
  D = Deadlocks (wiring_of d fewer)

  -- a group that stays in the one stays in the other
  stays-too : (g : ℕ) → g < d.groups → lane_in new g ≡ lane_in old g → lane_in fewer g ≡ lane_in old g
  stays-too g below stays = stays-not_moved old fewer g (λ moved. less.moved g below moved stays)

  stays-or_is : (g h : ℕ) → h < d.groups → lane_in fewer g ≡ lane_in old g → StaysOrIs old new g h → lane_in fewer h ≡ lane_in old h
  stays-or_is g h below stays (inl same) = subst (λ (x : ℕ). lane_in fewer x ≡ lane_in old x) (sym same) stays
  stays-or_is g h below stays (inr also) = stays-too h below also

  -- a group that moved in the new ones alone
  tried_in_vain : (g : ℕ) → lane_in fewer g ≡ lane_in old g → IsTriedInVain d old new needed g → D
  tried_in_vain g stays vain = Deadlocks-as_vertices d fewer declaration compared.assignment needed vain.at has together vain.circle
    where
      together : (h k : ℕ) → h < d.groups → k < d.groups → IsMarked needed h → IsMarked needed k → slice_index vain.at h ≡ slice_index vain.at k → lane_in fewer h ≡ lane_in fewer k
      together h k h_below k_below h_needs k_needs same = elim (vain.together h k h_below k_below h_needs k_needs same) [
        | inl one ↦ ap (lane_in fewer) one
        | inr both ↦ stays-or_is g h h_below stays both.0 ∙ both.2 ∙ sym (stays-or_is g k k_below stays both.1)
      ]

  has_to_leave : (g : ℕ) → g < d.groups → lane_in fewer g ≡ lane_in old g → HasToLeave old new needed g → D
  has_to_leave g below stays leaves = elim (has g below leaves.needs) [
    | inr dead ↦ dead
    | inl rescued ↦ absurd (
        let own : IsRescued fewer (lane_in old g) = subst (IsRescued fewer) stays rescued in
        let given : IsGiven d old fewer (lane_in old g) = record { bare = leaves.bare; rescued = own; group = g; is_group = below; was = refl; stays = stays } in
        false≢true (sym (less.given (lane_in old g) given).rescued ∙ leaves.still_bare)
        )
  ]

  one_moved : (g : ℕ) → g < d.groups → HasMoved old new g → (¬ HasMoved old fewer g) → D
  one_moved g below moved not = elim (are.moved g below moved) [
    | inl leaves ↦ has_to_leave g below (stays-not_moved old fewer g not) leaves
    | inr vain ↦ tried_in_vain g (stays-not_moved old fewer g not) vain
  ]

  -- a lane that is given a rescuer in the new ones alone: what stays on it needs one
  one_given : (q : ℕ) → IsGiven d old new q → (¬ IsGiven d old fewer q) → D
  one_given q given not =
      let g : ℕ = given.group in
      let stays : lane_in new g ≡ lane_in old g = given.stays ∙ sym given.was in
      let also : lane_in fewer g ≡ q = stays-too g given.is_group stays ∙ given.was in
      let needs : IsMarked needed g = are.given g given.is_group (subst (IsGiven d old new) (sym given.was) given) in
      elim (has g given.is_group needs) [
        | inr dead ↦ dead
        | inl rescued ↦ absurd (not (record {
          bare = given.bare;
          rescued = subst (IsRescued fewer) also rescued;
          group = g;
          is_group = given.is_group;
          was = given.was;
          stays = also;
        }))
      ]

  one_more : ((g : ℕ) × (g < d.groups) × HasMoved old new g × (¬ HasMoved old fewer g)) ⊎ ((q : ℕ) × IsGiven d old new q × (¬ IsGiven d old fewer q)) → D
  one_more (inl more) = one_moved more.0 more.1 more.2 more.3
  one_more (inr more) = one_given more.0 more.1 more.2

  pub Deadlocks-fewer : D
  Deadlocks-fewer = one_more less.more
