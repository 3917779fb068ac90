-- What is said beside a plan whose chain follows unsure flushes: how many workqueues are enough without them.
use Rattle.std.specs.Prelude.{◌≡◌, ◌≢◌, ◌==◌, ◌&&◌, ◌⊎◌, if◌then◌else◌, ℕ, Bool, not, List, [], ◌∷◌, ◌++◌}
use Rattle.std.specs.Prelude.{Option, Some, None}
use Rattle.std.specs.Prelude.{filter_map, flat_map, find, option_map, decimal}
use Rattle.std.specs.List.{list_any}
use Rattle.wq_items.specs.declared.target.Target.{Target}
use Rattle.wq_items.specs.Chain.{HasCircle}
use Rattle.wq_items.specs.Table.{targets_of}
use Rattle.wq_groups.specs.Assignment.{Assignment}
use Rattle.wq_groups.specs.Declaration.{GroupWaits}
use Rattle.wq_groups.specs.DeclaredGroups.{declared_waits, reading_with_names, Declared}
use Rattle.wq_text.specs.LineText.{line_text}
use Rattle.wq_cert.specs.Part.{unsure_line}
use Rattle.wq_plan.specs.Plan.{IsPlan}
use Rattle.wq_names.specs.Messages.{are_needed, are_needed_not_one}
use Rattle.wq_diagnosis.specs.Diagnosis.{shown_lines}

-- the flush by which item i waits for a target, if it is unsure: of the item's flushes of this target none is sure, and
-- it is the first
abbrev pub unsure_flush : List (List Target) → ℕ → ℕ → Option Target
unsure_flush waits i target =
    if list_any (λ (t : Target). (t.item == target) && not t.unsure) (targets_of waits i) then None
    else find (λ (t : Target). t.item == target) (targets_of waits i)

-- the words of the line that declares it
abbrev pub unsure_wait : List (List ℕ) → List (List Target) → ℕ × ℕ → Option (List (List ℕ))
unsure_wait names waits (i, target) =
    option_map (λ (t : Target). unsure_line names (i, t)) (unsure_flush waits i target)

-- this many workqueues are enough without unsure flushes: the plan of that reading has so many; nothing if the reading
-- has no plan
abbrev pub IsFewestWithout : Declared → Option ℕ → Type 0
IsFewestWithout s (Some fewer) =
    (a : Assignment) × IsPlan (declared_waits (reading_with_names s [])) a × (a.lanes ≡ fewer)
IsFewestWithout s None =
    HasCircle (GroupWaits (declared_waits (reading_with_names s []))) s.partition.groups

-- the words for how many workqueues are needed, and how many are enough without unsure flushes
abbrev pub needed_words : List ℕ → ℕ → ℕ → List ℕ
needed_words file count fewer =
    if fewer == 1 then are_needed_not_one file (decimal count) else are_needed file (decimal count) (decimal fewer)

-- if fewer workqueues are enough without unsure flushes: one line with both numbers, and these lines below it; nothing
-- if as many are needed
abbrev pub IsNeededNote : List ℕ → Declared → ℕ → List ℕ → List ℕ → Type 0
IsNeededNote file s count lines note =
    ((note ≡ []) × (IsFewestWithout s (Some count) ⊎ IsFewestWithout s None))
    ⊎ ((fewer : ℕ) × (fewer ≢ count) × IsFewestWithout s (Some fewer)
    × (note ≡ shown_lines (needed_words file count fewer ∷ []) ++ lines))

-- what is said of a plan with this number of workqueues and these waits along its chain: the note, with the lines of
-- the waits by unsure flushes; nothing if there are no such waits
abbrev pub IsChainNote : List ℕ → Declared → ℕ → List (ℕ × ℕ) → List ℕ → Type 0
IsChainNote file s count arcs note =
    ((note ≡ []) × (filter_map (unsure_wait s.table.names s.table.waits) arcs ≡ []))
    ⊎ IsNeededNote file s count (flat_map line_text (filter_map (unsure_wait s.table.names s.table.waits) arcs)) note
