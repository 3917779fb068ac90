-- What is said beside the answer of `hang` where items must go on, of what it found.
use Rattle.std.specs.Prelude.{ℕ, List, Option}
use Rattle.wq_meter.specs.Shell.{Given}
use Rattle.wq_groups.specs.DeclaredGroups.{Declared}
use Rattle.wq_commands.specs.declared.found.Found.{Found}
use Rattle.wq_voice.specs.Voice.{SaysFound}
use Rattle.wq_voice.specs.VoiceFor.{SaysHeld, SaysNamed}
use Rattle.wq_hang_command.specs.declared.holding.Holding.{Holding}

-- of what was found in the texts, or of the text that is refused; or which of these names is that of no item
abbrev pub SaysHoldOf : {A : Type 0} → List ℕ → List ℕ → List ℕ → List (List ℕ) → Declared → Given
    → Found (Option (Holding A)) → Option (List ℕ) → Type 0
SaysHoldOf first second third names s texts found said =
    SaysFound second third (λ found said. SaysNamed first names s
    (λ h said. SaysHeld first second texts.second s h.workqueues h.named.items h.answer said) found said) found said
