use Rattle.std.proofs.Common.{◌≡◌, ℕ, ◌<◌, length}
use Rattle.std.specs.Prelude.{slice_index}
use Rattle.wq_repair.proofs.repairing.all_items.Given as goal

-- the items so far
abbrev pub invariant-loop-item : goal.invariant-loop-item
invariant-loop-item g l = record {
  one_each : length l.items.items ≡ l.item;
  all : (i : ℕ) → i < l.item → slice_index l.items.items i ≡ i;
}
