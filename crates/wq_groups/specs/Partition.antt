-- Partitions: the groups of the items, each item in one.
use Rattle.std.specs.Prelude.{◌≡◌, ◌↔◌, ℕ, ◌<◌, ◌≤◌, List, length, slice_index, take, Contains}
use Rattle.std.specs.List.{All}
use Rattle.wq_items.specs.Table.{max_items}

-- for each item in turn the number of its group; and how many groups there are
pub record Partition : Type 0 where
  pub group_of : List ℕ
  pub groups : ℕ

-- at most 4,096 items, and no more groups than items; each item is in one of the groups, and each group has a member;
-- groups are numbered by their first members: before an item there are members of
-- all groups with lower numbers than its own
pub record IsPartition (p : Partition) : Type 0 where
  pub few_items : length p.group_of ≤ max_items
  pub few_groups : p.groups ≤ length p.group_of
  pub within : All (λ g. g < p.groups) p.group_of
  pub filled : (g : ℕ) → g < p.groups → Contains p.group_of g
  pub in_order : (i g : ℕ) → i < length p.group_of → g < slice_index p.group_of i → Contains (take i p.group_of) g

-- items i and j are in one group
abbrev pub ShareGroup : List ℕ → ℕ → ℕ → Type 0
ShareGroup group_of i j = slice_index group_of i ≡ slice_index group_of j

-- items share a group in one partition exactly if they do in the other
abbrev pub AreAlike : Partition → Partition → Type 0
AreAlike p q =
    (i j : ℕ) → i < length p.group_of → j < length p.group_of → ShareGroup p.group_of i j ↔ ShareGroup q.group_of i j
