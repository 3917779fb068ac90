-- The answer to a declaration, an assignment, and the names of the items that may move: repaired workqueues, or what
-- shows that nothing helps; and what is found for it.
use Rattle.std.specs.Prelude.{◌≡◌, ◌⊎◌, ℕ, List, Option, Some, None, MatchResult}
use Rattle.wq_graph.specs.declared.arc.WaitArc.{WaitArc}
use Rattle.wq_core.specs.declared.step.Step.{Step}
use Rattle.wq_core.specs.Deadlock.{DeadlocksBy}
use Rattle.wq_core.specs.Wiring.{wiring, own_lanes}
use Rattle.wq_core.specs.Workqueues.{Workqueues}
use Rattle.wq_deadlock.specs.CircleRun.{IsCircleRun}
use Rattle.wq_deadlock.specs.Judging.{AreSafe}
use Rattle.wq_repair.specs.declared.answer.Answer.{Answer}
use Rattle.wq_repair.specs.declared.answer.Answer.TheVariants as answer
use Rattle.wq_repair.specs.Repair.{IsAnswer, IsRepair, AreNamesTooFew, IsNeededCircle}
use Rattle.wq_cert.specs.RunText.{run_text}
use Rattle.wq_cert.specs.Texts.{workqueues_of_text, cert_refusal}
use Rattle.wq_names.specs.Names.{names_of}
use Rattle.wq_commands.specs.declared.end.End.{End}
use Rattle.wq_commands.specs.declared.end.End.TheVariants.{Good, Bad, Refused}
use Rattle.wq_commands.specs.declared.found.Found.{Found}
use Rattle.wq_commands.specs.declared.found.Found.TheVariants.{Read}
use Rattle.wq_commands.specs.declared.found.Which.TheVariants.{Certificate}
use Rattle.wq_groups.specs.DeclaredGroups.{declared_waits, Declared}
use Rattle.wq_commands.specs.Answer.{text_of_circle, PrintsRefusal}
use Rattle.wq_commands.specs.Declaration.{declaration}
use Rattle.wq_commands.specs.Found.{AnswersIn}
use Rattle.wq_repair_command.specs.declared.repairing.Repairing.{Repairing}
use Rattle.wq_repair_command.specs.AssignmentText.{assignment_text}
use Rattle.wq_repair_command.specs.Movers.{movers}

-- ---- what is printed

-- workqueues are printed, by the names of the old ones: the old ones themselves, if they are safe, or a repair of them
pub record PrintsWorkqueues (s : Declared) (old : Workqueues) (called : List (List ℕ)) (moving : List ℕ) (out : List ℕ)
    : Type 0 where
  pub new : Workqueues
  pub are : (AreSafe (declared_waits s) old × (new ≡ old)) ⊎ IsRepair (declared_waits s) old moving new
  pub text : out ≡ assignment_text s.table.names s.partition new called

-- too few items may move, and the run is printed by which the workqueues deadlock in which each group that may move and
-- needs a rescuer is alone
pub record PrintsTooFew (s : Declared) (old : Workqueues) (moving : List ℕ) (out : List ℕ) : Type 0 where
  pub start : Workqueues
  pub steps : List Step
  pub few : AreNamesTooFew (declared_waits s) old moving start steps
  pub text : out ≡ run_text s.table.names steps

-- a circle is printed in which groups that need a rescuer wait, with its run if each group has its own workqueue, by
-- which all items hang
pub record PrintsNeededCircle (s : Declared) (old : Workqueues) (out : List ℕ) : Type 0 where
  pub circle : List WaitArc
  pub needed : IsNeededCircle (declared_waits s) old circle
  pub steps : List Step
  pub is_run : IsCircleRun (wiring (declared_waits s) (own_lanes s.partition.groups)) circle steps
  pub deadlocks : DeadlocksBy (wiring (declared_waits s) (own_lanes s.partition.groups)) steps
  pub text : out ≡ text_of_circle s circle steps

-- ---- the answer

-- the answer if these items may move: workqueues that are safe, or else a circle or a run that shows that nothing helps
abbrev pub RepairsMoving : Declared → Workqueues → List (List ℕ) → List ℕ → End → List ℕ → Type 0
RepairsMoving s old called moving Good out = PrintsWorkqueues s old called moving out
RepairsMoving s old called moving Bad out = PrintsNeededCircle s old out ⊎ PrintsTooFew s old moving out
RepairsMoving s old called moving Refused out = ⊥

-- the answer if these items may move; or the refusal (8, at no line), if one of the given names is no item's
abbrev pub RepairsIf : Declared → Workqueues → List (List ℕ) → Option (List ℕ) → End → List ℕ → Type 0
RepairsIf s old called None end out = PrintsRefusal (record { code = 8; line = 0 }) end out
RepairsIf s old called (Some moving) end out = RepairsMoving s old called moving end out

-- the answer to workqueues of a declaration's groups: what they are called, and the names of the items that may move
abbrev pub RepairsAssigned : Declared → Workqueues → List (List ℕ) → List (List ℕ) → End → List ℕ → Type 0
RepairsAssigned s old called names end out = RepairsIf s old called (movers s.table.names names) end out

-- the answer to the text of an assignment of a declaration, or its refusal
abbrev pub RepairsDeclared : Declared → List (List ℕ) → List ℕ → End → List ℕ → Type 0
RepairsDeclared s names text end out =
    MatchResult (workqueues_of_text s.table.names s.partition text)
    (λ ws. RepairsAssigned s ws (names_of text) names end out)
    (λ fault. PrintsRefusal (cert_refusal fault) end out)

-- the answer to the texts of a declaration and an assignment: a refusal of the declaration comes first
abbrev pub Repairs : List (List ℕ) → List ℕ → List ℕ → End → List ℕ → Type 0
Repairs names declared text end out =
    MatchResult (declaration declared) (λ s. RepairsDeclared s names text end out) (λ r. PrintsRefusal r end out)

-- ---- what is found, of which the answer is printed

-- this circle is printed, with its run if each group has its own workqueue, by which all items hang
abbrev pub PrintsWithRun : Declared → List WaitArc → List ℕ → Type 0
PrintsWithRun s circle out =
    (steps : List Step) × IsCircleRun (wiring (declared_waits s) (own_lanes s.partition.groups)) circle steps
    × DeadlocksBy (wiring (declared_waits s) (own_lanes s.partition.groups)) steps
    × (out ≡ text_of_circle s circle steps)

-- what is printed of this answer: the workqueues that were given, or the repaired ones, with these names; or the run or
-- the circle that shows that nothing helps
abbrev pub PrintsAnswer : {A : Type 0} → Declared → Workqueues → List (List ℕ) → Answer A → End → List ℕ → Type 0
PrintsAnswer s old called answer.Safe end out =
    (end ≡ Good) × (out ≡ assignment_text s.table.names s.partition old called)
PrintsAnswer s old called (answer.Repaired new) end out =
    (end ≡ Good) × (out ≡ assignment_text s.table.names s.partition new called)
PrintsAnswer s old called (answer.TooFewNames start steps) end out =
    (end ≡ Bad) × (out ≡ run_text s.table.names steps.items)
PrintsAnswer s old called (answer.Circle arcs) end out = (end ≡ Bad) × PrintsWithRun s arcs.items out

-- these workqueues are found, and what can be done about them if these items may move; and this answer is printed, with
-- these names of the workqueues
pub record FindsRepair {A : Type 0} (s : Declared) (old : Workqueues) (called : List (List ℕ)) (moving : List ℕ)
    (found : Found (Option (Repairing A))) (end : End) (out : List ℕ) : Type 0 where
  pub answer : Answer A
  pub is : found ≡ Read (Some (record { workqueues = old; answer = answer }))
  pub answers : IsAnswer (declared_waits s) old moving answer
  pub prints : PrintsAnswer s old called answer end out

-- what is found and answered if these items may move; nothing is found if one of the given names is no item's (8, at no
-- line)
abbrev pub FindsIfNamed : {A : Type 0} → Declared → Workqueues → List (List ℕ) → Option (List ℕ)
    → Found (Option (Repairing A)) → End → List ℕ → Type 0
FindsIfNamed s old called None found end out =
    (found ≡ Read None) × PrintsRefusal (record { code = 8; line = 0 }) end out
FindsIfNamed s old called (Some moving) found end out = FindsRepair s old called moving found end out

-- what `repair` finds in the text of an assignment of what is declared, and what it answers, if the items with these
-- names may move; or the refusal of the text
abbrev pub RepairsText : {A : Type 0} → List (List ℕ) → Declared → List ℕ → Found (Option (Repairing A)) → End → List ℕ
    → Type 0
RepairsText names s text = AnswersIn Certificate (workqueues_of_text s.table.names s.partition text)
    (λ old. FindsIfNamed s old (names_of text) (movers s.table.names names))
