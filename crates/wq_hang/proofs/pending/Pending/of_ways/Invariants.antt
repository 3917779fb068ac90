use Rattle.std.proofs.Common.{◌<◌, take}
use Rattle.wq_hang.specs.WaysFor.{ArePending}
use Rattle.wq_hang.proofs.Awaited.{AreAwaited}
use Rattle.wq_hang.proofs.FlushesSoFar.{IsBefore}
use Rattle.wq_hang.proofs.pending.Pending.of_ways.Given as goal

-- the flushes so far
abbrev pub invariant-loop-i : goal.invariant-loop-i
invariant-loop-i g l = AreAwaited l.waits l.limit l.ways (λ j t. j < l.i) l.pending

abbrev pub invariant-loop-flush : goal.invariant-loop-flush
invariant-loop-flush g l =
    AreAwaited l.waits l.limit l.ways
    (IsBefore l.i (take l.flush-index l.flush-items)) l.pending

-- the starts so far are queued
abbrev pub invariant-loop-item : goal.invariant-loop-item
invariant-loop-item g l =
    ArePending l.waits (take l.item-index l.starts) l.limit l.ways
    (record { costs = l.pending-inside.costs.items; by = l.pending-inside.by.items })
