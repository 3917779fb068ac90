-- What is said beside the answer of `dot`.
use Rattle.std.specs.Prelude.{List, ℕ, Option}
use Rattle.wq_groups.specs.DeclaredGroups.{Declared}
use Rattle.wq_commands.specs.declared.found.Found.{Found}
use Rattle.wq_diagnosis.specs.Refused.{NotesNoItem}
use Rattle.wq_voice.specs.Voice.{SaysFound}
use Rattle.wq_dot.specs.declared.dotting.Drawn.{Drawn}

-- the diagnosis of the text that is refused or, beside a drawing, that no item is declared
abbrev pub SaysDot : {A : Type 0} → List ℕ → List ℕ → List ℕ → Declared → Found (Drawn A) → Option (List ℕ) → Type 0
SaysDot first second third s found said = SaysFound second third (λ _ said. NotesNoItem first s said) found said
