-- What a table and the groups of its items declare is a declaration; what waits in a declaration.
use Rattle.std.proofs.Common.{◌≡◌, ◌<◌, ℕ, List, length, sym, ◌∙◌, subst, arith}
use Rattle.std.specs.Prelude.{slice_index}
use Rattle.wq_items.specs.Table.{Table, IsTable, ItemWaits, TargetsBelow}
use Rattle.wq_items.proofs.ReadingLemmas.{length-compact, TargetsBelow-compact, flush_count-compact-le}
use Rattle.wq_items.proofs.ReadingLemmas.{numbered-compact, PlacesRise-compact}
use Rattle.wq_items.proofs.Tables.{ItemWaits-item, ItemWaits-below, VertexWaits-items}
use Rattle.std.specs.List.{All}
use Rattle.wq_groups.specs.Partition.{Partition, IsPartition}
use Rattle.wq_groups.specs.Declaration.{Declaration, GroupWaits, IsDeclaration, declaration_of, reading_declared}

-- for a table and a partition of its items
pub IsDeclaration-of : (t : Table) (p : Partition) → IsTable t → IsPartition p → length p.group_of ≡ length t.names
    → IsDeclaration (declaration_of t p)
IsDeclaration-of t p table partition one_each = record {
  one_list_each = table.one_list_each ∙ sym one_each;
  partition = partition;
  targets_are_items = subst (λ n. All (TargetsBelow n) t.waits) (sym one_each) table.targets_are_items;
  few_flushes = table.few_flushes;
  places_are_numbered = table.places_are_numbered;
  places_rise = table.places_rise;
}

-- a reading of a declaration is one, too
pub IsDeclaration-reading : (d : Declaration) (kept : List ℕ) → IsDeclaration d
    → IsDeclaration (reading_declared d kept)
IsDeclaration-reading d kept h = record {
  one_list_each = length-compact kept d.waits ∙ h.one_list_each;
  partition = h.partition;
  targets_are_items = TargetsBelow-compact kept d.waits (length d.group_of) h.targets_are_items;
  few_flushes = omega (arith, flush_count-compact-le kept d.waits, h.few_flushes);
  places_are_numbered = numbered-compact kept d.waits h.places_are_numbered;
  places_rise = PlacesRise-compact kept d.waits h.places_rise;
}

module _ (d : Declaration) (is : IsDeclaration d) where
  -- what waits is an item, and so is what it waits for
  pub waiting-item : (i j : ℕ) → ItemWaits d.waits i j → i < length d.group_of
  waiting-item i j declared = subst (λ n. i < n) is.one_list_each (ItemWaits-item d.waits i j declared)

  pub awaited-item : (i j : ℕ) → ItemWaits d.waits i j → j < length d.group_of
  awaited-item i j declared = ItemWaits-below (length d.group_of) d.waits is.targets_are_items i j declared

  -- the group of an item waits for that of its target
  pub GroupWaits-items : (i j : ℕ) → ItemWaits d.waits i j
      → GroupWaits d (slice_index d.group_of i) (slice_index d.group_of j)
  GroupWaits-items i j declared = VertexWaits-items d.waits d.group_of i j (waiting-item i j declared)
      (awaited-item i j declared) declared
