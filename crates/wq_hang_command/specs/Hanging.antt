-- The answer to a declaration and an assignment: that the assignment is safe, or else a shortest run that ends stuck.
use Rattle.std.specs.Prelude.{◌≡◌, ℕ, List, MatchResult}
use Rattle.wq_groups.specs.Assignment.{IsAssignment}
use Rattle.wq_core.specs.declared.step.Step.{Step}
use Rattle.wq_core.specs.Workqueues.{Workqueues, wiring_of}
use Rattle.wq_core.specs.Deadlock.{IsSafe}
use Rattle.wq_hang.specs.declared.answer.Answer.{Answer}
use Rattle.wq_hang.specs.declared.answer.Answer.TheVariants as answer
use Rattle.wq_hang.specs.declared.hop.Hop.{Hop}
use Rattle.wq_hang.specs.Answer.{IsAnswer, IsHangOf}
use Rattle.wq_hang.specs.Walk.{needs}
use Rattle.wq_cert.specs.Part.{reading_text}
use Rattle.wq_cert.specs.Texts.{workqueues_of_text, cert_refusal}
use Rattle.wq_commands.specs.declared.end.End.{End}
use Rattle.wq_commands.specs.declared.end.End.TheVariants.{Good, Bad, Refused}
use Rattle.wq_commands.specs.declared.found.Found.{Found}
use Rattle.wq_commands.specs.declared.found.Found.TheVariants.{Read}
use Rattle.wq_commands.specs.declared.found.Which.TheVariants.{Certificate as SecondText}
use Rattle.wq_groups.specs.DeclaredGroups.{declared_waits, Declared}
use Rattle.wq_commands.specs.Answer.{PrintsRefusal}
use Rattle.wq_commands.specs.Deadlocking.{safe_text}
use Rattle.wq_commands.specs.Declaration.{declaration}
use Rattle.wq_commands.specs.Found.{AnswersIn}
use Rattle.wq_hang_command.specs.declared.hanging.Hanging.{Hanging}

-- the steps of a shortest run that ends stuck on these workqueues, in the reading that keeps the fewest unsure flushes.
-- These are printed, too, if the declaration has any. The run is that of a walk; if a flush that leads to a bare lane
-- costs as little, it is the run of the first such flush
pub record PrintsHang (s : Declared) (ws : Workqueues) (out : List ℕ) : Type 0 where
  pub steps : List Step
  pub hops : List Hop
  pub hang : IsHangOf (declared_waits s) ws hops steps
  pub text : out ≡ reading_text s.table.names s.table.waits (needs hops) steps

-- the answer to workqueues of a declaration's groups: `safe` if no run ends stuck, whatever the unsure flushes turn out
-- to be, else a shortest run that does
abbrev pub HangsAssigned : Declared → Workqueues → End → List ℕ → Type 0
HangsAssigned s ws Good out =
    IsAssignment s.partition.groups ws.assignment × IsSafe (wiring_of (declared_waits s) ws) × (out ≡ safe_text)
HangsAssigned s ws Bad out = PrintsHang s ws out
HangsAssigned s ws Refused out = ⊥

-- the answer to the text of an assignment of a declaration, or its refusal
abbrev pub HangsDeclared : Declared → List ℕ → End → List ℕ → Type 0
HangsDeclared s text end out =
    MatchResult (workqueues_of_text s.table.names s.partition text)
    (λ ws. HangsAssigned s ws end out)
    (λ fault. PrintsRefusal (cert_refusal fault) end out)

-- the answer to the texts of a declaration and an assignment: a refusal of the declaration comes first
abbrev pub Hangs : List ℕ → List ℕ → End → List ℕ → Type 0
Hangs declared text end out =
    MatchResult (declaration declared) (λ s. HangsDeclared s text end out) (λ r. PrintsRefusal r end out)

-- ---- what is found, and printed

-- what is printed of this answer: `safe`, or the unsure flushes that it needs, if a flush is unsure, and the steps of
-- its run
abbrev pub PrintsAnswer : {A : Type 0} → Declared → Answer A → End → List ℕ → Type 0
PrintsAnswer s answer.Safe end out = (end ≡ Good) × (out ≡ safe_text)
PrintsAnswer s (answer.Hang hops steps) end out =
    (end ≡ Bad) × (out ≡ reading_text s.table.names s.table.waits (needs hops.items) steps.items)

-- the workqueues are found, and how they hang soonest: the waits of a walk, and its run, which is printed
pub record FindsHang {A : Type 0} (s : Declared) (ws : Workqueues) (found : Found (Hanging A)) (end : End)
    (out : List ℕ) : Type 0 where
  pub hanging : Hanging A
  pub is : found ≡ Read hanging
  pub workqueues : hanging.workqueues ≡ ws
  pub answer : IsAnswer (declared_waits s) ws hanging.answer
  pub printed : PrintsAnswer s hanging.answer end out

-- `hang`: how the workqueues with this text hang soonest
abbrev pub HangsText : {A : Type 0} → Declared → List ℕ → Found (Hanging A) → End → List ℕ → Type 0
HangsText s text =
    AnswersIn SecondText (workqueues_of_text s.table.names s.partition text) (λ ws. FindsHang s ws)
