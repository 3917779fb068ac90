use Rattle.std.proofs.Common.{◌<◌, take}
use Rattle.wq_hang.proofs.LastHops.{IsClosingOf}
use Rattle.wq_hang.proofs.FlushesSoFar.{IsBefore}
use Rattle.wq_hang.proofs.least_for.Field.round_alone.Given as goal

-- the cheapest so far of the hops that wait for the item alone
abbrev pub invariant-loop-i : goal.invariant-loop-i
invariant-loop-i g l =
    IsClosingOf l.self-inside.waits.now l.fn.item l.fn.limit l.search (λ j t. j < l.i) l.least l.last

abbrev pub invariant-loop-flush : goal.invariant-loop-flush
invariant-loop-flush g l =
    IsClosingOf l.self-inside.waits.now l.fn.item l.fn.limit l.search
    (IsBefore l.i (take l.flush-index l.flush-items)) l.least l.last
