use Rattle.std.proofs.Common.{◌≡◌, take}
use Rattle.wq_plan.proofs.solving.lane_ids.Given as goal

abbrev pub invariant-loop-number : goal.invariant-loop-number
invariant-loop-number g l = l.ids.items ≡ take l.number-index l.lane
