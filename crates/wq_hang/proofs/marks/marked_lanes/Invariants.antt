use Rattle.std.proofs.Common.{◌≡◌, ◌<◌, ◌≤◌, length, slice_index, slice_index_or, true, false}
use Rattle.wq_core.specs.Wiring.{lane_of}
use Rattle.wq_hang.specs.declared.hop.Hop.{Hop}
use Rattle.wq_hang.specs.Walk.{IsHop}
use Rattle.wq_hang.proofs.marks.marked_lanes.Given as goal

abbrev pub invariant-loop-i : goal.invariant-loop-i
invariant-loop-i g l = record {
  len : length l.marks.items ≡ l.waits.lanes;
  marked : (h : Hop) → IsHop l.waits h → h.item < l.i → slice_index l.numbers (lane_of l.waits h.flush.item) ≤ slice_index l.numbers (lane_of l.waits h.item)
      → slice_index_or l.marks.items (lane_of l.waits h.flush.item) false ≡ true;
}
