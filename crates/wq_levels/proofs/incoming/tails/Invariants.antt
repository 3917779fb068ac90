use Rattle.std.proofs.Common.{◌≡◌}
use Rattle.wq_levels.proofs.Beside.{tails_below}
use Rattle.wq_levels.proofs.incoming.tails.Given as goal

-- those that the arcs of the vertices below v leave
abbrev pub invariant-loop-v : goal.invariant-loop-v
invariant-loop-v g l = l.tails.items ≡ tails_below l.graph l.v
