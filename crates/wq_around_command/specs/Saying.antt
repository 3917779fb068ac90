-- What is said beside the answers around fixed workqueues.
use Rattle.std.specs.Prelude.{◌≡◌, ℕ, List, Option, Some, codes, Result, Ok, Err}
use Rattle.wq_meter.specs.Shell.{Given}
use Rattle.wq_core.specs.Workqueues.{Workqueues}
use Rattle.wq_groups.specs.DeclaredGroups.{Declared}
use Rattle.wq_around.specs.declared.answer.Around.{Around}
use Rattle.wq_around.specs.declared.answer.Around.TheVariants as around
use Rattle.wq_checker.specs.declared.around.NoAround.{NoAround}
use Rattle.wq_checker.specs.declared.around.YesAround.{YesAround}
use Rattle.wq_checker.specs.CodesAround.{no_around_code}
use Rattle.wq_commands.specs.declared.found.Found.{Found}
use Rattle.wq_diagnosis.specs.Diagnosis.{IsDiagnosis}
use Rattle.wq_diagnosis.specs.Refused.{NotesNoItem}
use Rattle.wq_voice.specs.Reasons.{GivesReasonOn}
use Rattle.wq_voice.specs.Voice.{SaysCheck, SaysFound, SaysPlan}
use Rattle.wq_around_command.specs.declared.checking.Checked.{Checked}
use Rattle.wq_around_command.specs.declared.checking.Checked.TheVariants as checked
use Rattle.wq_around_command.specs.declared.planning.Planned.{Planned}
use Rattle.wq_around_command.specs.declared.planning.Planned.TheVariants as planned

-- how the workqueues of the start hang soonest, with the names of the fixed ones
abbrev pub SaysStart : List ℕ → List ℕ → Declared → Workqueues → Option (List ℕ) → Type 0
SaysStart first fixed s start said = GivesReasonOn first fixed s start said

-- beside a plan what is said of a declaration without an item; and where there is none how the start hangs soonest
abbrev pub SaysAround : {A : Type 0} → List ℕ → List ℕ → Declared → Workqueues → Around A → Option (List ℕ) → Type 0
SaysAround first fixed s start (around.Plan workqueues order chain) said = NotesNoItem first s said
SaysAround first fixed s start answer said = SaysStart first fixed s start said

-- of what `plan` found; where there is no fixed workqueue, what is said without
abbrev pub SaysPlanned : {A : Type 0} → List ℕ → List ℕ → Declared → Planned A → Option (List ℕ) → Type 0
SaysPlanned first fixed s (planned.Plain end) said = SaysPlan first s end said
SaysPlanned first fixed s (planned.Around start answer) said = SaysAround first fixed s start answer said

-- the same of what was found, or of the text that is refused
abbrev pub SaysPlanAround : {A : Type 0} → List ℕ → List ℕ → List ℕ → Declared → Given → Found (Planned A)
    → Option (List ℕ) → Type 0
SaysPlanAround first second third s texts found said =
    SaysFound second third (λ p said. SaysPlanned first texts.second s p said) found said

-- of an answer of the checker: its diagnosis, if it is a no
abbrev pub SaysAnswerAround : List ℕ → List ℕ → Declared → Result YesAround NoAround → Option (List ℕ) → Type 0
SaysAnswerAround first second s (Ok _) said = NotesNoItem first s said
SaysAnswerAround first second s (Err why) said =
    (text : List ℕ) × (said ≡ Some text) × IsDiagnosis second (codes "no") (no_around_code why) 0 text

-- of what `check` found behind the fixed workqueues, or of the certificate that is refused; where there is no fixed
-- workqueue, what is said without
abbrev pub SaysChecked : List ℕ → List ℕ → List ℕ → Declared → Given → Checked → Option (List ℕ) → Type 0
SaysChecked first second third s texts (checked.Plain found) said = SaysCheck first second third s texts found said
SaysChecked first second third s texts (checked.Around found) said =
    SaysFound second third (λ answer said. SaysAnswerAround first second s answer said) found said

-- the same of all that was found, or of the fixed workqueues that are refused
abbrev pub SaysCheckAround : List ℕ → List ℕ → List ℕ → Declared → Given → Found Checked → Option (List ℕ) → Type 0
SaysCheckAround first second third s texts found said =
    SaysFound second third (λ c said. SaysChecked first second third s texts c said) found said
