use Rattle.std.proofs.Common.{◌+◌, ◌-◌, ◌≤◌, length, take, drop}
use Rattle.std.specs.Option.{option_map}
use Rattle.wq_hang.proofs.Bounding.{ServeAll}
use Rattle.wq_hang.proofs.LeastFound.{IsBest}
use Rattle.wq_hang.proofs.least.least_round.Given as goal

abbrev pub invariant-loop-from : goal.invariant-loop-from
invariant-loop-from g l =
    (l.from ≤ length l.passed)
    × IsBest l.waits l.limit (take l.from l.passed) l.least (option_map (λ v. v.items) l.found)

abbrev pub invariant-loop-i : goal.invariant-loop-i
invariant-loop-i g l =
    ServeAll l.waits (take (l.to - l.from) (drop l.from l.passed)) l.bounds.items
    × IsBest l.waits l.limit (take (l.from + l.i-index) l.passed) l.least (option_map (λ v. v.items) l.found)

abbrev pub decreases-loop-from : goal.decreases-loop-from
decreases-loop-from g l = length l.passed - l.from
