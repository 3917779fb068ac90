use Rattle.std.proofs.Common.{◌≡◌, map}
use Rattle.std.specs.List.{range_with_len}
use Rattle.wq_changes.specs.Without.{lane_without}
use Rattle.wq_changes.proofs.without.lanes_without.Given as goal

-- the lanes of the groups so far
abbrev pub invariant-loop-number : goal.invariant-loop-number
invariant-loop-number g l = l.lanes.items ≡ map (lane_without l.old l.new l.change) (range_with_len 0 l.number)
