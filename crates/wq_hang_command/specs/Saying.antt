-- What is said beside the answer of `hang`, of what it found.
use Rattle.std.specs.Prelude.{◌≡◌, ℕ, List, Option, Some}
use Rattle.wq_meter.specs.Shell.{Given}
use Rattle.wq_core.specs.Workqueues.{Workqueues}
use Rattle.wq_hang.specs.declared.answer.Answer.{Answer}
use Rattle.wq_hang.specs.declared.answer.Answer.TheVariants.{Hang, Safe}
use Rattle.wq_names.specs.Names.{names_of}
use Rattle.wq_groups.specs.DeclaredGroups.{Declared}
use Rattle.wq_commands.specs.declared.found.Found.{Found}
use Rattle.wq_voice.specs.Unsure.{NotesSafe, TellsHang}
use Rattle.wq_voice.specs.Voice.{SaysFound}
use Rattle.wq_voice.specs.Waits.{words_of}
use Rattle.wq_voice.specs.declared.waits.Wording.TheVariants.{OnWorkqueues}
use Rattle.wq_hang_command.specs.declared.hanging.Hanging.{Hanging}

-- what is said of workqueues with this text: beside `safe`, which items are on workqueues without a rescuer; beside a
-- run, the waits of its walk; and beside both, whether unsure flushes matter
abbrev pub SaysHang : {A : Type 0} → List ℕ → List ℕ → List ℕ → Declared → Workqueues → Answer A → Option (List ℕ)
    → Type 0
SaysHang first second lanes s ws Safe said = NotesSafe first second lanes s ws said
SaysHang first second lanes s ws (Hang hops steps) said =
    (text : List ℕ) × (said ≡ Some text)
    × TellsHang first (λ h. words_of OnWorkqueues s ws (names_of lanes) h) s ws hops.items text

-- what is said of what `hang` found in the texts, or the diagnosis of the text that is refused
abbrev pub SaysHangOf : {A : Type 0} → List ℕ → List ℕ → List ℕ → Declared → Given → Found (Hanging A)
    → Option (List ℕ) → Type 0
SaysHangOf first second third s texts found said =
    SaysFound second third (λ h said. SaysHang first second texts.second s h.workqueues h.answer said) found said
