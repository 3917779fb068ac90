-- What is said beside `safe`: which items are on workqueues without a rescuer.
use Rattle.std.specs.Prelude.{◌≡◌, ℕ, List, [], ◌∷◌, ◌++◌, Option, Some, codes, filter, flat_map, length}
use Rattle.std.specs.Prelude.{map}
use Rattle.std.specs.List.{range_with_len}
use Rattle.wq_core.specs.Workqueues.{Workqueues}
use Rattle.wq_deadlock.specs.Judging.{is_on_bare}
use Rattle.wq_names.specs.Messages.{declare_who_waits, item_on_workqueue, nothing_guarantees}
use Rattle.wq_names.specs.Names.{names_of}
use Rattle.wq_groups.specs.DeclaredGroups.{Declared}
use Rattle.wq_diagnosis.specs.Diagnosis.{shown_lines}
use Rattle.wq_diagnosis.specs.Refused.{NotesNoItem}
use Rattle.wq_diagnosis.specs.Words.{item_words, workqueue_of, workqueue_words}

-- the texts, with a comma between each two
abbrev pub listed : List (List ℕ) → List ℕ
listed [] = []
listed (one ∷ more) = one ++ flat_map (λ other. codes ", " ++ other) more

-- the items on workqueues without a rescuer, in the order of their declaration
abbrev pub bare_items : Declared → Workqueues → List ℕ
bare_items s ws = filter (is_on_bare ws s.partition.group_of) (range_with_len 0 (length s.table.names))

-- an item and its workqueue
abbrev pub placed_item : Declared → Workqueues → List (List ℕ) → ℕ → List ℕ
placed_item s ws names i = item_on_workqueue (item_words s i) (workqueue_words names (workqueue_of s ws i))

-- the two lines of the note: all of these items, and what to do about them
abbrev pub bare_note : List ℕ → List (List ℕ) → List ℕ
bare_note file items = shown_lines (nothing_guarantees file (listed items) ∷ declare_who_waits file ∷ [])

-- what is said beside `safe`: the note about these items in the file of the assignment; if there are none, the note
-- about a declaration without an item
abbrev pub NotesItems : List ℕ → List ℕ → Declared → List (List ℕ) → Option (List ℕ) → Type 0
NotesItems first second s [] said = NotesNoItem first s said
NotesItems first second s (item ∷ items) said = said ≡ Some (bare_note second (item ∷ items))

-- `NotesItems` of the bare items of the workqueues with this text
abbrev pub NotesBare : List ℕ → List ℕ → List ℕ → Declared → Workqueues → Option (List ℕ) → Type 0
NotesBare first second lanes s ws said =
    NotesItems first second s (map (placed_item s ws (names_of lanes)) (bare_items s ws)) said
