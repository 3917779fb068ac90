-- Declarations: items by number, what they flush, and which of them share a group.
use Rattle.std.specs.Prelude.{◌≡◌, ℕ, ◌≤◌, List, length, IsPermutation}
use Rattle.std.specs.List.{All, range_with_len}
use Rattle.wq_items.specs.declared.target.Target.{Target}
use Rattle.wq_items.specs.Table.{Table, VertexWaits, TargetsBelow, PlacesRise, max_flushes, flush_count, places}
use Rattle.wq_items.specs.Readings.{compact}
use Rattle.wq_groups.specs.Partition.{Partition, IsPartition}

-- for each item, the targets of its flushes and the number of its group; and how many groups there are
pub record Declaration : Type 0 where
  pub waits : List (List Target)
  pub group_of : List ℕ
  pub groups : ℕ

-- what a table and the groups of its items declare
abbrev pub declaration_of : Table → Partition → Declaration
declaration_of t p = record { waits = t.waits; group_of = p.group_of; groups = p.groups }

-- what is declared in the reading that keeps the unsure flushes at these places
abbrev pub reading_declared : Declaration → List ℕ → Declaration
reading_declared d kept = record d { waits = compact kept d.waits }

-- a group waits for a group, which may be the same: an item of the first declares a flush of an item of the second
abbrev pub GroupWaits : Declaration → ℕ → ℕ → Type 0
GroupWaits d = VertexWaits d.waits d.group_of

-- what holds for every declaration: one list of targets for each item; groups as a partition has them; at most 16,384
-- flushes, each of an item, at the places 0, 1, 2 and so on, which rise within each item
pub record IsDeclaration (d : Declaration) : Type 0 where
  pub one_list_each : length d.waits ≡ length d.group_of
  pub partition : IsPartition (record { group_of = d.group_of; groups = d.groups })
  pub targets_are_items : All (TargetsBelow (length d.group_of)) d.waits
  pub few_flushes : flush_count d.waits ≤ max_flushes
  pub places_are_numbered : IsPermutation (range_with_len 0 (flush_count d.waits)) (places d.waits)
  pub places_rise : All PlacesRise d.waits
