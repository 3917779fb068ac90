-- Numbering: the numbers of groups, given the head of each item: the first-declared item of its group.
use Rattle.std.specs.Prelude.{◌≡◌, ℕ, zero, suc, ◌+◌, ◌<◌, ◌≤◌, ◌==◌, if◌then◌else◌, map}
use Rattle.std.specs.List.{range_with_len}
use Rattle.wq_groups.specs.Partition.{Partition}

-- for the items below n: none is before its head, and a head is its own head
pub record AreHeads (n : ℕ) (F : ℕ → ℕ) : Type 0 where
  pub no_later : (i : ℕ) → i < n → F i ≤ i
  pub own : (i : ℕ) → i < n → F (F i) ≡ F i

-- how many heads are below m
abbrev pub heads_below : (ℕ → ℕ) → ℕ → ℕ
heads_below F zero = 0
heads_below F (suc m) = heads_below F m + (if F m == m then 1 else 0)

-- the number of the group of item i
abbrev pub head_number : (ℕ → ℕ) → ℕ → ℕ
head_number F i = heads_below F (F i)

-- the groups of the items below n
abbrev pub headed : ℕ → (ℕ → ℕ) → Partition
headed n F = record { group_of = map (head_number F) (range_with_len 0 n); groups = heads_below F n }
