use Rattle.std.proofs.Common.{◌≡◌, ◌≤◌, ℕ, length, take, slice_index, slice_index_or, true, false}
use Rattle.std.specs.Prelude.{Contains}
use Rattle.wq_items.specs.declared.target.Target.{Target}
use Rattle.wq_core.specs.Wiring.{lane_of}
use Rattle.wq_hang.proofs.marks.mark_from.Given as goal

abbrev pub invariant-loop-flush : goal.invariant-loop-flush
invariant-loop-flush g l = record {
  len : length l.marks ≡ length l.initial.marks;
  kept : (q : ℕ) → slice_index_or l.initial.marks q false ≡ true → slice_index_or l.marks q false ≡ true;
  marked : (t : Target) → Contains (take l.flush-index l.flush-items) t → slice_index l.numbers (lane_of l.waits t.item) ≤ l.own → slice_index_or l.marks (lane_of l.waits t.item) false ≡ true;
}
