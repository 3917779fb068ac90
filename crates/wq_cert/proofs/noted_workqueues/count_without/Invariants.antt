use Rattle.std.proofs.Common.{◌≡◌, count_by, take}
use Rattle.wq_fixed.specs.Fixed.{has_none}
use Rattle.wq_cert.proofs.noted_workqueues.count_without.Given as goal

abbrev pub invariant-loop-lane : goal.invariant-loop-lane
invariant-loop-lane l = l.count ≡ count_by has_none (take l.lane-index l.lane_of_group)
