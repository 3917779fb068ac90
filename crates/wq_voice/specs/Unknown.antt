-- What is said of a name on the command line that is that of no item.
use Rattle.std.specs.Prelude.{◌≡◌, ◌⊎◌, if◌then◌else◌, ℕ, List, [], ◌∷◌, ◌++◌, Option, Some, None, is_none}
use Rattle.wq_items.specs.Table.{item_named}
use Rattle.wq_names.specs.Messages.{did_you_mean, unknown_item}
use Rattle.wq_diagnosis.specs.Diagnosis.{shown_lines}

-- the first of these names that is that of no item
abbrev pub first_unknown : List (List ℕ) → List (List ℕ) → Option (List ℕ)
first_unknown items [] = None
first_unknown items (name ∷ names) = if is_none (item_named items name) then Some name else first_unknown items names

-- that this is the name of no item
abbrev pub unknown_line : List ℕ → List ℕ → List ℕ
unknown_line file name = shown_lines (unknown_item file name ∷ [])

-- that this item was most likely meant
abbrev pub meant_line : List ℕ → List ℕ → List ℕ
meant_line file item = shown_lines (did_you_mean file item ∷ [])

-- what is said of this name, which is that of no item: that it is the name of none, and nothing else or that an item
-- was meant, which is declared. Which item that is, and whether one is named, isn't said here
abbrev pub SaysNoItem : List ℕ → List (List ℕ) → List ℕ → List ℕ → Type 0
SaysNoItem file items name text = (text ≡ unknown_line file name)
    ⊎ ((i : ℕ) × (item : List ℕ) × (item_named items item ≡ Some i)
    × (text ≡ unknown_line file name ++ meant_line file item))

-- what is said of such a name; nothing if there is none
abbrev pub SaysFirstUnknown : List ℕ → List (List ℕ) → Option (List ℕ) → Option (List ℕ) → Type 0
SaysFirstUnknown file items None said = said ≡ None
SaysFirstUnknown file items (Some name) said = (text : List ℕ) × (said ≡ Some text) × SaysNoItem file items name text
