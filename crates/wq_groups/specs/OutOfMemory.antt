-- Out of memory: when an allocation can fail while the items and the groups of a declaration are read.
use Rattle.std.specs.Prelude.{◌≡◌, ◌⊎◌, ℕ, ◌<◌, List, length, Ok, IsOk}
use Rattle.wq_decl.specs.declared.directive.Directive.{Directive}
use Rattle.wq_items.specs.Table.{Table}
use Rattle.wq_items.specs.Building.{table_of}
use Rattle.wq_items.specs.FirstFault.{RanOut}
use Rattle.wq_groups.specs.Grouping.{groups_of}

-- memory can run out while the groups are numbered: no name is ordered twice, and there is an item
pub record RanOutOfGroups (ds : List (ℕ × Directive)) (names : List (List ℕ)) : Type 0 where
  pub faultless : IsOk (groups_of ds names)
  pub grows : 0 < length names

-- memory can run out in the pass over the items, at a line up to which no line has a fault; or in the pass over the
-- groups, if no line has a fault of either pass
abbrev pub RanOutReading : List (ℕ × Directive) → Type 0
RanOutReading ds = RanOut ds ⊎ ((t : Table) × (table_of ds ≡ Ok t) × RanOutOfGroups ds t.names)
