use Rattle.std.proofs.Common.{map}
use Rattle.wq_hang.proofs.EndsFound.{AreNearBelow}
use Rattle.wq_hang.proofs.least_for.by_cost.Given as goal

-- of the items so far those that cost less than the limit
abbrev pub invariant-loop-i : goal.invariant-loop-i
invariant-loop-i g l = AreNearBelow l.limit l.ways.costs l.i (map (λ key. key.1) l.keys.items)
