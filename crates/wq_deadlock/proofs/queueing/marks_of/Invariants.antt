use Rattle.std.proofs.Common.{◌≡◌, ◌<◌, ◌==◌, ℕ, length, take, slice_index_or, false}
use Rattle.std.specs.List.{list_any}
use Rattle.wq_deadlock.proofs.queueing.marks_of.Given as goal

-- the items so far
abbrev pub invariant-loop-item : goal.invariant-loop-item
invariant-loop-item g l = record {
  len : length l.marks.items ≡ l.items;
  marked : (i : ℕ) → i < l.items → slice_index_or l.marks.items i false
      ≡ list_any (λ j. i == j) (take l.item-index l.these);
}
