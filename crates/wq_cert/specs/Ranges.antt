-- Ranges: what is known about every certificate, assignment and run that is read. Items are counted by their names.
use Rattle.std.specs.Prelude.{◌≡◌, ℕ, ◌-◌, ◌<◌, ◌≤◌, ◌⊎◌, false, List, [], length, Some}
use Rattle.std.specs.List.{All}
use Rattle.wq_groups.specs.Assignment.{IsAssignmentOf}
use Rattle.wq_core.specs.Workqueues.{Workqueues}
use Rattle.wq_core.specs.declared.step.Step.{Step}
use Rattle.wq_core.specs.Runs.{IsHelp}
use Rattle.wq_core.specs.State.{max_number}
use Rattle.wq_cert.specs.Certificate.{PlanCertificate, CircleCertificate, Certificate, OfPlan, OfCircle}
use Rattle.wq_cert.specs.Reading.{names_far_lane, max_count}
use Rattle.wq_cert.specs.RunText.{step_item}

-- the item and the target of an arc are each one of this many items
abbrev pub IsArcOf : ℕ → ℕ × ℕ → Type 0
IsArcOf items arc = (arc.0 < items) × (arc.1 < items)

-- a step of one of this many items, on a workqueue below 4,096 if it names one, and not by a helper
abbrev pub IsStepOf : ℕ → Step → Type 0
IsStepOf items step = (step_item step < items) × (names_far_lane step ≡ false) × (¬ IsHelp step)

-- workqueues of this many groups, at most 4,096; of each it is known whether it has a rescuer, or all have one
pub record AreWorkqueuesOf (groups : ℕ) (ws : Workqueues) : Type 0 where
  pub assignment : IsAssignmentOf groups ws.assignment
  pub one_each : (ws.bare ≡ []) ⊎ (length ws.bare ≡ ws.assignment.lanes)

-- fewer than 4,294,967,295 steps, of this many items
pub record IsRunOf (items : ℕ) (steps : List Step) : Type 0 where
  pub known : All (IsStepOf items) steps
  pub few : length steps < max_number

-- what the text of a plan says about this many items and groups: an assignment to at most 4,096 workqueues, a chain of
-- at most 4,096 groups, and one arc fewer, or none if there is no group
pub record IsPlanOf (items groups : ℕ) (c : PlanCertificate) : Type 0 where
  pub assignment : IsAssignmentOf groups c.assignment
  pub few : c.length ≤ max_count
  pub count : length c.arcs ≡ c.length - 1
  pub arcs : All (IsArcOf items) c.arcs

-- what the text of a circle says about this many items: from 1 to 4,096 arcs, and perhaps a run
pub record IsCircleOf (items : ℕ) (c : CircleCertificate) : Type 0 where
  pub some : 0 < length c.arcs
  pub few : length c.arcs ≤ max_count
  pub arcs : All (IsArcOf items) c.arcs
  pub run : (steps : List Step) → c.steps ≡ Some steps → IsRunOf items steps

-- what the text of an answer says about this many items and groups
abbrev pub IsCertificateOf : ℕ → ℕ → Certificate → Type 0
IsCertificateOf items groups (OfPlan c) = IsPlanOf items groups c
IsCertificateOf items groups (OfCircle c) = IsCircleOf items c
