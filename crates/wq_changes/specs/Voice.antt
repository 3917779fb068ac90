-- What is said beside the answer of `repair`, of what it found.
use Rattle.std.specs.Prelude.{◌≡◌, ℕ, List, Option, Some, None}
use Rattle.wq_core.specs.Workqueues.{Workqueues}
use Rattle.wq_meter.specs.Shell.{Given}
use Rattle.wq_names.specs.Names.{names_of}
use Rattle.wq_groups.specs.DeclaredGroups.{Declared}
use Rattle.wq_commands.specs.declared.found.Found.{Found}
use Rattle.wq_repair.specs.declared.answer.Answer.{Answer}
use Rattle.wq_repair.specs.declared.answer.Answer.TheVariants as answer
use Rattle.wq_repair_command.specs.declared.repairing.Repairing.{Repairing}
use Rattle.wq_voice.specs.Unknown.{SaysFirstUnknown, first_unknown}
use Rattle.wq_voice.specs.Unsure.{NotesSafe}
use Rattle.wq_voice.specs.Voice.{SaysFound}
use Rattle.wq_changes.specs.Told.{TellsChanges}
use Rattle.wq_changes.specs.Few.{TellsFew}
use Rattle.wq_changes.specs.Circles.{TellsCircle}

-- ---- what can be done about workqueues

-- what is said of this answer to the workqueues with this text, which also has their names. If they are safe, which
-- items are on workqueues without a rescuer; if they are repaired, which changes lead to the new ones; if too few items
-- may move, on which workqueues they hang; and if groups that need a rescuer wait in a circle, how they hang
abbrev pub SaysAnswer : {A : Type 0} → List ℕ → List ℕ → List ℕ → Declared → Workqueues → Answer A → Option (List ℕ)
    → Type 0
SaysAnswer first second lanes s old answer.Safe said = NotesSafe first second lanes s old said
SaysAnswer first second lanes s old (answer.Repaired new) said =
    (text : List ℕ) × (said ≡ Some text) × TellsChanges first second s (names_of lanes) old new text
SaysAnswer first second lanes s old (answer.TooFewNames start steps) said =
    (text : List ℕ) × (said ≡ Some text) × TellsFew first second s (names_of lanes) start text
SaysAnswer first second lanes s old (answer.Circle arcs) said =
    (text : List ℕ) × (said ≡ Some text) × TellsCircle first s arcs.items text

-- ---- what `repair` found

-- what is said of workqueues with this text and of the answer to them; or of the first name that is no item's, if one
-- was found
abbrev pub SaysRead : {A : Type 0} → List ℕ → List ℕ → List (List ℕ) → Declared → List ℕ → Option (Repairing A)
    → Option (List ℕ) → Type 0
SaysRead first second names s lanes None said =
    SaysFirstUnknown first s.table.names (first_unknown s.table.names names) said
SaysRead first second names s lanes (Some r) said = SaysAnswer first second lanes s r.workqueues r.answer said

-- what is said of what `repair` found in these texts, if the items with these names may move; or of the text that is
-- refused
abbrev pub SaysRepair : {A : Type 0} → List ℕ → List ℕ → List ℕ → List (List ℕ) → Declared → Given
    → Found (Option (Repairing A)) → Option (List ℕ) → Type 0
SaysRepair first second third names s texts found said =
    SaysFound second third (λ r said. SaysRead first second names s texts.second r said) found said
