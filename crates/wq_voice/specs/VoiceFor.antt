-- What is said beside answers where items must go on.
use Rattle.std.specs.Prelude.{◌≡◌, ◌++◌, ℕ, List, Option, None, Some, map, option_map}
use Rattle.wq_meter.specs.Shell.{Given}
use Rattle.wq_core.specs.declared.step.Step.{Step}
use Rattle.wq_core.specs.Workqueues.{Workqueues}
use Rattle.wq_checker.specs.declared.run.RunEnd.{RunEnd}
use Rattle.wq_checker.specs.declared.run.RunEnd.TheVariants.{Free, NotLawful}
use Rattle.wq_circles.specs.declared.circling_for.CirclingFor.{CirclingFor}
use Rattle.wq_hang.specs.declared.answer.Held.{Held}
use Rattle.wq_hang.specs.declared.answer.Held.TheVariants.{HeldUp, Safe}
use Rattle.wq_names.specs.Messages.{to_what_is_named}
use Rattle.wq_names.specs.Names.{names_of}
use Rattle.wq_groups.specs.DeclaredGroups.{Declared}
use Rattle.wq_commands.specs.declared.found.Found.{Found}
use Rattle.wq_commands.specs.declared.replaying_for.ReplayedFor.{ReplayedFor}
use Rattle.wq_diagnosis.specs.Reasons.{SaysStep}
use Rattle.wq_diagnosis.specs.Refused.{NotesNoItem}
use Rattle.wq_voice.specs.Held.{GivesHeld, NotesNotHeld, TellsHeld}
use Rattle.wq_voice.specs.Unknown.{SaysFirstUnknown, first_unknown}
use Rattle.wq_voice.specs.Unsure.{IsNoDifference, NotesSafe}
use Rattle.wq_voice.specs.Voice.{SaysFound, declared_read}

-- of what is found where the items with these names must go on; or of the first name that is that of no item
abbrev pub SaysNamed : {T : Type 0} → List ℕ → List (List ℕ) → Declared → (T → Option (List ℕ) → Type 0) → Option T
    → Option (List ℕ) → Type 0
SaysNamed first names s Says None said = SaysFirstUnknown first s.table.names (first_unknown s.table.names names) said
SaysNamed first names s Says (Some found) said = Says found said

-- ---- `hang`

-- of workqueues with this text: beside a run how one of these items is held up; beside `safe` what that doesn't say
abbrev pub SaysHeld : {A : Type 0} → List ℕ → List ℕ → List ℕ → Declared → Workqueues → List ℕ → Held A
    → Option (List ℕ) → Type 0
SaysHeld first second lanes s ws named Safe said = NotesNotHeld first second lanes s ws named said
SaysHeld first second lanes s ws named (HeldUp x hops steps) said =
    (text : List ℕ) × (said ≡ Some text) × TellsHeld first second lanes s ws named x hops.items text

-- ---- `replay`

-- of a run that was made and ends like this: why the first step that isn't lawful isn't; beside `deadlock` and `stuck`
-- how one of these items is held up soonest
abbrev pub SaysEndFor : List ℕ → List ℕ → List ℕ → List ℕ → Declared → Workqueues → List ℕ → Option (List ℕ)
    → List Step → RunEnd → Option (List ℕ) → Type 0
SaysEndFor first second third lanes s ws named kept steps Free said = NotesNoItem first s said
SaysEndFor first second third lanes s ws named kept steps (NotLawful n) said =
    SaysStep third (declared_read s kept) ws (names_of lanes) steps n said
SaysEndFor first second third lanes s ws named kept steps end said = GivesHeld first second lanes s ws named said

-- the same of what was found, or of the text that is refused
abbrev pub SaysEndOfFor : {A : Type 0} → List ℕ → List ℕ → List ℕ → List (List ℕ) → Declared → Given
    → Found (Option (ReplayedFor A)) → Option (List ℕ) → Type 0
SaysEndOfFor first second third names s texts found said =
    SaysFound second third (λ found said. SaysNamed first names s (λ r said.
    SaysEndFor first second third texts.second s r.replayed.workqueues r.named.items
    (option_map (λ places. places.items) r.replayed.kept) r.replayed.steps.items r.replayed.end said) found said)
    found said

-- ---- `circles`

-- beside how one of these items is held up soonest: which unsure flushes are in nothing of what can hold them up, and
-- so make no difference to them; if none can be held up, what is said beside every `safe` of workqueues with this text
abbrev pub SaysBeside : {A : Type 0} → List ℕ → List ℕ → List ℕ → Declared → CirclingFor A → Option (List ℕ)
    → Option (List ℕ) → Type 0
SaysBeside first second lanes s c None said = NotesSafe first second lanes s c.workqueues said
SaysBeside first second lanes s c (Some reason) said =
    (note : List ℕ) × (said ≡ Some (reason ++ note))
    × IsNoDifference first to_what_is_named s (map (λ l. l.items) c.held.components.items)
    (c.held.waits.items ++ c.held.ways.items) note

-- of workqueues with this text: how one of these items is held up soonest, and what is said beside that
abbrev pub SaysCirclesFor : {A : Type 0} → List ℕ → List ℕ → List ℕ → Declared → CirclingFor A → Option (List ℕ)
    → Type 0
SaysCirclesFor first second lanes s c said =
    (reason : Option (List ℕ)) × GivesHeld first second lanes s c.workqueues c.named.items reason
    × SaysBeside first second lanes s c reason said

-- the same of what was found, or of the text that is refused
abbrev pub SaysCirclesOfFor : {A : Type 0} → List ℕ → List ℕ → List ℕ → List (List ℕ) → Declared → Given
    → Found (Option (CirclingFor A)) → Option (List ℕ) → Type 0
SaysCirclesOfFor first second third names s texts found said =
    SaysFound second third (λ found said. SaysNamed first names s
    (λ c said. SaysCirclesFor first second texts.second s c said) found said) found said
