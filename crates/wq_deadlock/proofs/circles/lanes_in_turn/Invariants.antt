use Rattle.std.proofs.Common.{◌≡◌}
use Rattle.std.specs.List.{range_with_len}
use Rattle.wq_deadlock.proofs.circles.lanes_in_turn.Given as goal

abbrev pub invariant-loop-q : goal.invariant-loop-q
invariant-loop-q g l = l.lanes.items ≡ range_with_len 0 l.q
