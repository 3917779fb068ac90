-- Waits: the targets of each item, found in one list of the flushes of all items.
use Rattle.std.specs.Prelude.{ℕ, ◌==◌, List, map, filter}
use Rattle.std.specs.List.{range_with_len}
use Rattle.wq_items.specs.declared.target.Target.{Target}
use Rattle.wq_items.specs.declared.flush.Flush.{Flush}

-- the targets of the flushes of item i, in order of place
abbrev pub targets_among : List Flush → ℕ → List Target
targets_among flushes i = map (λ (f : Flush). f.target) (filter (λ (f : Flush). f.item == i) flushes)

-- for each of this many items, the targets of its flushes
abbrev pub waits_of : List Flush → ℕ → List (List Target)
waits_of flushes items = map (targets_among flushes) (range_with_len 0 items)
