-- Which refusal or which `no` a diagnosis is about.
use Rattle.std.specs.Prelude.{◌≡◌, ◌<◌, ℕ, List, [], ◌∷◌, Option, Some, None, codes, length}
use Rattle.wq_text.specs.Refusal.{Refusal}
use Rattle.wq_checker.specs.declared.answer.No.{No}
use Rattle.wq_checker.specs.Codes.{no_code}
use Rattle.wq_groups.specs.DeclaredGroups.{Declared}
use Rattle.wq_names.specs.Messages.{no_item}
use Rattle.wq_diagnosis.specs.Diagnosis.{IsDiagnosis, shown_lines}

-- what is said about a text: nothing if it isn't refused, or else a diagnosis of its refusal
abbrev pub Diagnoses : List ℕ → Option Refusal → Option (List ℕ) → Type 0
Diagnoses file None said = said ≡ None
Diagnoses file (Some r) said =
    (text : List ℕ) × (said ≡ Some text) × IsDiagnosis file (codes "refused") r.code r.line text

-- what is said about a certificate: the diagnosis of a `no`, with its number; nothing if there is none
abbrev pub SaysNo : List ℕ → Option No → Option (List ℕ) → Type 0
SaysNo file None said = said ≡ None
SaysNo file (Some why) said =
    (text : List ℕ) × (line : ℕ) × (said ≡ Some text) × IsDiagnosis file (codes "no") (no_code why) line text

-- the line that is said beside the answer to a declaration without an item
abbrev pub no_item_note : List ℕ → List ℕ
no_item_note file = shown_lines (no_item file ∷ [])

-- what is said beside the answer to a declaration that needs no more words: the note if it has no item, or else nothing
abbrev pub NotesNoItem : List ℕ → Declared → Option (List ℕ) → Type 0
NotesNoItem file s None = 0 < length s.table.names
NotesNoItem file s (Some said) = (said ≡ no_item_note file) × (length s.table.names ≡ 0)
