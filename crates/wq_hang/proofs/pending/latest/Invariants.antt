use Rattle.std.proofs.Common.{◌<◌, take}
use Rattle.wq_hang.proofs.Awaited.{AreLatestOf}
use Rattle.wq_hang.proofs.FlushesSoFar.{IsBefore}
use Rattle.wq_hang.proofs.pending.latest.Given as goal

-- the flushes so far
abbrev pub invariant-loop-i : goal.invariant-loop-i
invariant-loop-i g l = AreLatestOf l.waits l.limit l.ways.costs (λ j t. j < l.i) l.latest.items

abbrev pub invariant-loop-flush : goal.invariant-loop-flush
invariant-loop-flush g l =
    AreLatestOf l.waits l.limit l.ways.costs
    (IsBefore l.i (take l.flush-index l.flush-items)) l.latest.items
