-- What is said of changes: for each in turn what is changed, and for the first ones how the workqueues hang without it.
use Rattle.std.specs.Prelude.{◌≡◌, ℕ, List, [], ◌∷◌, ◌++◌, Option, drop, take, unwrap_or, nat_lt, if◌then◌else◌, length}
use Rattle.wq_core.specs.Workqueues.{Workqueues}
use Rattle.wq_groups.specs.DeclaredGroups.{declared_waits, Declared}
use Rattle.wq_diagnosis.specs.Diagnosis.{IsPlain, shown_lines}
use Rattle.wq_voice.specs.Reasons.{plain_head, GivesReason}
use Rattle.wq_voice.specs.Waits.{words_of}
use Rattle.wq_voice.specs.declared.waits.Wording.TheVariants.{OnWorkqueues}
use Rattle.wq_changes.specs.declared.change.Change.{Change}
use Rattle.wq_changes.specs.Changes.{changes_of}
use Rattle.wq_changes.specs.Without.{without_change}
use Rattle.wq_changes.specs.Words.{change_words, lead_of}

-- for how many changes it is said, at most, why they are needed, if this many items are declared
abbrev pub most_reasons : ℕ → ℕ
most_reasons items = if nat_lt 512 items then 1 else 10

-- how the workqueues hang soonest without this change; nothing if no run of them ends stuck
abbrev pub GivesWhy : List ℕ → Declared → List (List ℕ) → Workqueues → Workqueues → Change → List ℕ → Type 0
GivesWhy first s names old new c why =
    let ws = without_change old new c in
    (said : Option (List ℕ)) × (why ≡ unwrap_or said [])
    × GivesReason first (lead_of c) (λ h. words_of OnWorkqueues s ws names h) (declared_waits s) ws said

-- one line, which has this file, a line and a column of it, and says this; and it is plain
pub record IsOneLine (file what text : List ℕ) : Type 0 where
  pub line : ℕ
  pub column : ℕ
  pub is : text ≡ shown_lines (plain_head file (line ∷ column ∷ []) what ∷ [])
  pub plain : IsPlain text

-- what is changed alone
abbrev pub IsTold : List ℕ → Declared → List (List ℕ) → Workqueues → Workqueues → Change → List ℕ → Type 0
IsTold second s names old new c text = IsOneLine second (change_words s names old new c) text

-- what is changed, and why
abbrev pub IsToldWhy : List ℕ → List ℕ → Declared → List (List ℕ) → Workqueues → Workqueues → Change → List ℕ → Type 0
IsToldWhy first second s names old new c text =
    (one : List ℕ) × (why : List ℕ) × (text ≡ one ++ why) × IsTold second s names old new c one
    × GivesWhy first s names old new c why

-- the texts for these changes, one for each, in this order
abbrev pub AreEach : (Change → List ℕ → Type 0) → List Change → List ℕ → Type 0
AreEach Says [] text = text ≡ []
AreEach Says (c ∷ cs) text = (one : List ℕ) × (rest : List ℕ) × (text ≡ one ++ rest) × Says c one × AreEach Says cs rest

-- the texts of `AreEach` were added to a text
abbrev pub AddsEach : (Change → List ℕ → Type 0) → List Change → List ℕ → List ℕ → Type 0
AddsEach Says cs old new = (added : List ℕ) × (new ≡ old ++ added) × AreEach Says cs added

-- the first changes with why, and the others alone
abbrev pub TellsChanges : List ℕ → List ℕ → Declared → List (List ℕ) → Workqueues → Workqueues → List ℕ → Type 0
TellsChanges first second s names old new text =
    let cs = changes_of s.partition.groups old new in
    let most = most_reasons (length s.table.names) in
    (whys : List ℕ) × (others : List ℕ) × (text ≡ whys ++ others)
    × AreEach (IsToldWhy first second s names old new) (take most cs) whys
    × AreEach (IsTold second s names old new) (drop most cs) others
