-- What is declared, with the names of the items: a table of items, and the groups of these.
use Rattle.std.specs.Prelude.{◌≡◌, ℕ, List, length}
use Rattle.wq_items.specs.Table.{Table, IsTable}
use Rattle.wq_items.specs.Readings.{table_reading}
use Rattle.wq_groups.specs.Declaration.{Declaration, declaration_of}
use Rattle.wq_groups.specs.Partition.{Partition, IsPartition}

-- items with their flushes, and their groups
pub record Declared : Type 0 where
  pub table : Table
  pub partition : Partition

-- a table of items, and the groups of these items: each item is in one
pub record IsSound (s : Declared) : Type 0 where
  pub table : IsTable s.table
  pub partition : IsPartition s.partition
  pub one_group_each : length s.partition.group_of ≡ length s.table.names

-- what is declared in the reading that keeps the unsure flushes at these places
abbrev pub reading_with_names : Declared → List ℕ → Declared
reading_with_names s kept = record s { table = table_reading s.table kept }

-- what is declared, without the names
abbrev pub declared_waits : Declared → Declaration
declared_waits s = declaration_of s.table s.partition
