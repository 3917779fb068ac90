use Rattle.std.proofs.Common.{◌≡◌, take}
use Rattle.wq_groups.specs.Assignment.{item_lanes}
use Rattle.wq_groups.proofs.assignment.Assignment.item_lanes.Given as goal

-- the lanes of the items so far
abbrev pub invariant-loop-number : goal.invariant-loop-number
invariant-loop-number g l = l.lanes.items ≡ item_lanes l.self (take l.number-index l.numbers)
