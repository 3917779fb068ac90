use Rattle.std.proofs.Common.{◌≡◌, take}
use Rattle.wq_plan.specs.Plan.{lanes_of}
use Rattle.wq_plan.proofs.longest.lanes_used.Given as goal

abbrev pub invariant-loop-l : goal.invariant-loop-l
invariant-loop-l l = l.lanes ≡ lanes_of (take l.l-index l.lane)
