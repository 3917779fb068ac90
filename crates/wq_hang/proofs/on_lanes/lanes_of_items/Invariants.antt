use Rattle.std.proofs.Common.{◌≡◌, map}
use Rattle.std.specs.List.{range_with_len}
use Rattle.wq_core.specs.Wiring.{lane_of}
use Rattle.wq_hang.proofs.on_lanes.lanes_of_items.Given as goal

abbrev pub invariant-loop-i : goal.invariant-loop-i
invariant-loop-i g l = l.lanes.items ≡ map (lane_of l.waits) (range_with_len 0 l.i)
