-- Answers of the checker: what a certificate shows, or the first reason why it shows nothing.
use Rattle.std.specs.Prelude.{◌≡◌, ◌≢◌, ℕ, ◌⊎◌, ◌-◌, ◌<◌, ◌≤◌, List, length, Option, Some, None, IsSome, Result, Ok}
use Rattle.std.specs.Prelude.{Err}
use Rattle.std.specs.List.{All}
use Rattle.wq_groups.specs.Declaration.{Declaration}
use Rattle.wq_groups.specs.Assignment.{IsAssignment}
use Rattle.wq_core.specs.declared.step.Step.{Step}
use Rattle.wq_core.specs.Wiring.{wiring, own_lanes}
use Rattle.wq_core.specs.Deadlock.{DeadlocksBy}
use Rattle.wq_core.specs.State.{max_number}
use Rattle.wq_cert.specs.Certificate.{PlanCertificate, CircleCertificate, Certificate, OfPlan, OfCircle}
use Rattle.wq_cert.specs.Reading.{max_count}
use Rattle.wq_checker.specs.declared.answer.Yes.{Yes}
use Rattle.wq_checker.specs.declared.answer.Yes.TheVariants as yes
use Rattle.wq_checker.specs.declared.answer.No.{No}
use Rattle.wq_checker.specs.declared.answer.No.TheVariants.{NotFalling, LengthDiffers, ChainBroken, CircleBroken}
use Rattle.wq_checker.specs.declared.answer.No.TheVariants.{RunBroken}
use Rattle.wq_checker.specs.Chains.{AllJoin, IsFirstBreak, before_in_chain, before_in_circle}
use Rattle.wq_checker.specs.Falling.{AllFall, IsFirstNotFalling}

-- ---- plans

-- the chain is said to have one group, but there is no group
abbrev pub LacksGroup : Declaration → PlanCertificate → Type 0
LacksGroup d c = (c.length ≡ 1) × (d.groups ≡ 0)

-- the chain breaks at arc `at`, counted from 1, or at 0 if it lacks its one group
abbrev pub IsChainBrokenAt : Declaration → PlanCertificate → ℕ → Type 0
IsChainBrokenAt d c at = (LacksGroup d c × (at ≡ 0)) ⊎ IsFirstBreak d (before_in_chain c.arcs) c.arcs at

-- each flush falls, and the chain has as many groups as there are workqueues
pub record IsGoodPlan (d : Declaration) (c : PlanCertificate) : Type 0 where
  pub falls : AllFall d c.assignment
  pub long : c.length ≡ c.assignment.lanes
  pub has_group : ¬ LacksGroup d c
  pub joined : AllJoin d (before_in_chain c.arcs) c.arcs

-- what is answered to the text of a plan
abbrev pub AnswersPlan : Declaration → PlanCertificate → Result Yes No → Type 0
AnswersPlan d c (Ok (yes.Plan number)) = IsGoodPlan d c × (number ≡ c.assignment.lanes)
AnswersPlan d c (Ok (yes.Circle length)) = ⊥
AnswersPlan d c (Err (NotFalling item target)) = IsFirstNotFalling d c.assignment item target
AnswersPlan d c (Err LengthDiffers) = AllFall d c.assignment × (c.length ≢ c.assignment.lanes)
AnswersPlan d c (Err (ChainBroken at)) =
    AllFall d c.assignment × (c.length ≡ c.assignment.lanes) × IsChainBrokenAt d c at
AnswersPlan d c (Err (CircleBroken at)) = ⊥
AnswersPlan d c (Err RunBroken) = ⊥

-- ---- circles

-- the steps, if there are any, are a run that deadlocks if each group has a workqueue of its own
abbrev pub ShowsDeadlock : Declaration → Option (List Step) → Type 0
ShowsDeadlock d None = Unit {0}
ShowsDeadlock d (Some steps) = DeadlocksBy (wiring d (own_lanes d.groups)) steps

-- the arcs make a circle, and the run deadlocks
pub record IsGoodCircle (d : Declaration) (c : CircleCertificate) : Type 0 where
  pub joined : AllJoin d (before_in_circle c.arcs) c.arcs
  pub deadlocks : ShowsDeadlock d c.steps

-- what is answered to the text of a circle
abbrev pub AnswersCircle : Declaration → CircleCertificate → Result Yes No → Type 0
AnswersCircle d c (Ok (yes.Plan number)) = ⊥
AnswersCircle d c (Ok (yes.Circle n)) = IsGoodCircle d c × (n ≡ length c.arcs)
AnswersCircle d c (Err (NotFalling item target)) = ⊥
AnswersCircle d c (Err LengthDiffers) = ⊥
AnswersCircle d c (Err (ChainBroken at)) = ⊥
AnswersCircle d c (Err (CircleBroken at)) = IsFirstBreak d (before_in_circle c.arcs) c.arcs at
AnswersCircle d c (Err RunBroken) = AllJoin d (before_in_circle c.arcs) c.arcs × (¬ ShowsDeadlock d c.steps)

-- what is answered to a certificate
abbrev pub AnswersCertificate : Declaration → Certificate → Result Yes No → Type 0
AnswersCertificate d (OfPlan c) answer = AnswersPlan d c answer
AnswersCertificate d (OfCircle c) answer = AnswersCircle d c answer

-- a run has to be made for the answer: the arcs make a circle, and steps follow them
abbrev pub NeedsRun : Declaration → Certificate → Type 0
NeedsRun d (OfPlan c) = ⊥
NeedsRun d (OfCircle c) = AllJoin d (before_in_circle c.arcs) c.arcs × IsSome c.steps

-- ---- certificates that can be asked about

-- each arc is between items that exist
abbrev pub ArcsOfItems : Declaration → List (ℕ × ℕ) → Type 0
ArcsOfItems d arcs = All (λ (arc : ℕ × ℕ). (arc.0 < length d.waits) × (arc.1 < length d.waits)) arcs

-- one lane for each group, and one arc fewer than there are groups in the chain, or none if it has no group
pub record IsPlanAsked (d : Declaration) (c : PlanCertificate) : Type 0 where
  pub assignment : IsAssignment d.groups c.assignment
  pub arcs : ArcsOfItems d c.arcs
  pub count : length c.arcs ≡ c.length - 1

-- at least one arc, and fewer steps than there are numbers
pub record IsCircleAsked (d : Declaration) (c : CircleCertificate) : Type 0 where
  pub arcs : ArcsOfItems d c.arcs
  pub some : 0 < length c.arcs
  pub few : length c.arcs ≤ max_count
  pub few_steps : (steps : List Step) → c.steps ≡ Some steps → length steps < max_number

-- what is known about every certificate that is read
abbrev pub IsAsked : Declaration → Certificate → Type 0
IsAsked d (OfPlan c) = IsPlanAsked d c
IsAsked d (OfCircle c) = IsCircleAsked d c
