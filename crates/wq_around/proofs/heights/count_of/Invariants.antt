use Rattle.std.proofs.Common.{◌≡◌, ◌≤◌, take}
use Rattle.wq_plan.specs.Plan.{lanes_of}
use Rattle.wq_around.proofs.heights.count_of.Given as goal

abbrev pub invariant-loop-number : goal.invariant-loop-number
invariant-loop-number l =
    (l.count ≡ lanes_of (take l.number-index l.numbers)) × (l.count ≤ 4096)
