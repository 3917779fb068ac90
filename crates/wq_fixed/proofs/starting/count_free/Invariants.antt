use Rattle.std.proofs.Common.{◌≡◌, take}
use Rattle.std.specs.List.{count_by}
use Rattle.wq_fixed.specs.Fixed.{has_none}
use Rattle.wq_fixed.proofs.starting.count_free.Given as goal

abbrev pub invariant-loop-lane : goal.invariant-loop-lane
invariant-loop-lane l = l.free ≡ count_by has_none (take l.lane-index l.lane_of_group)
