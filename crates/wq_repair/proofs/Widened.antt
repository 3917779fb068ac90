-- Repairs in which more groups than those that need a rescuer count as needing one.
use Rattle.std.proofs.Common.{◌≡◌, ℕ, ◌<◌, ◌⊎◌, inl, inr, Bool, List, length, sym, subst, ◌∙◌, arith}
use Rattle.std.proofs.lemmas.Bool.{cases_eq}
use Rattle.wq_groups.specs.Declaration.{Declaration, IsDeclaration}
use Rattle.wq_groups.specs.Assignment.{IsAssignment}
use Rattle.wq_core.specs.Workqueues.{Workqueues, wiring_of}
use Rattle.wq_core.specs.Deadlock.{Deadlocks}
use Rattle.wq_repair.specs.Changes.{IsRescued, lane_in}
use Rattle.wq_repair.specs.Needed.{NeedsRescuerOf}
use Rattle.wq_repair.specs.Marks.{IsMarked, Marks}
use Rattle.wq_repair.specs.Joined.{NeedRescuers}
use Rattle.wq_repair.specs.Steps.{HoldsMarked, KeepsNeeded}
use Rattle.wq_repair.specs.Ready.{IsMinimal}
use Rattle.wq_repair.specs.Repair.{IsRepair}
use Rattle.wq_repair.proofs.Marks.{IsMarked-below}
use Rattle.wq_repair.proofs.Rescuers.{rescued-needed}
use Rattle.wq_repair.proofs.Repaired.{IsRepair-needed}

-- of the groups that stay, one that needs a rescuer is on each of these lanes
pub KeepsNeeded-kept : (old new : Workqueues) (needed stay kept : List Bool) → Marks (λ (g : ℕ). IsMarked needed g × (lane_in new g ≡ lane_in old g)) (length needed) stay
    → Marks (HoldsMarked old stay) old.assignment.lanes kept → (q : ℕ) → IsMarked kept q → KeepsNeeded old new needed q
KeepsNeeded-kept old new needed stay kept are_staying are_kept q marked =
    let holds = (are_kept.exactly q (omega (arith, IsMarked-below kept q marked, are_kept.one_each))).0 marked in
    let group_is : holds.group < length needed = omega (arith, holds.is_group, are_staying.one_each) in
    let stays = (are_staying.exactly holds.group group_is).0 holds.marked in
    record { group = holds.group; is_group = group_is; needs = stays.0; was = holds.on; stays = stays.1 ∙ holds.on }

module _ (d : Declaration) (old new : Workqueues) (names : List ℕ) (needed all : List Bool) (declaration : IsDeclaration d) (before : IsAssignment d.groups old.assignment)
    (are : Marks (NeedsRescuerOf d old names) d.groups needed) (long : length all ≡ d.groups)
    (keeps : (g : ℕ) → g < length all → IsMarked all g → IsMarked needed g ⊎ KeepsNeeded old new needed (lane_in old g)) where
  -- a group that needs a rescuer stays on the lane in whatever has fewer changes, so the lane has one, and a group that
  -- stays beside it has it, too
  NeedRescuers-wider : NeedRescuers d old names new all
  NeedRescuers-wider fewer compared less g is marked = elim (keeps g (omega (arith, is, long)) marked) [
    | inl needs ↦ rescued-needed d old fewer names declaration before compared g ((are.exactly g is).0 needs)
    | inr keep ↦
        let h : ℕ = keep.group in
        let h_is : h < d.groups = omega (arith, keep.is_group, are.one_each) in
        elim (rescued-needed d old fewer names declaration before compared h ((are.exactly h h_is).0 keep.needs)) [
          | inr dead ↦ inr dead
          | inl rescued ↦ elim (cases_eq (lane_in fewer h) (lane_in old h)) [
            | inr moved ↦ absurd (less.moved h h_is moved (keep.stays ∙ sym keep.was))
            | inl stays ↦ elim (cases_eq (lane_in fewer g) (lane_in old g)) [
              | inr moved ↦ inl (compared.onto_rescuers g is moved)
              | inl beside ↦ inl (subst (IsRescued fewer) (stays ∙ keep.was ∙ sym beside) rescued)
            ]
          ]
        ]
  ]

  pub IsRepair-wider : Deadlocks (wiring_of d old) → IsMinimal d old names all new → IsRepair d old names new
  IsRepair-wider dead is =
      IsRepair-needed d old new names all is.number declaration dead is.compared NeedRescuers-wider is.changes is.falls
      is.few is.bare is.used is.only is.hosted
