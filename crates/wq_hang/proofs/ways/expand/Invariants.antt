use Rattle.std.proofs.Common.{◌≡◌, take, fold}
use Rattle.wq_core.specs.Wiring.{declared_by}
use Rattle.wq_hang.specs.WaysFor.{follow_below}
use Rattle.wq_hang.proofs.ways.expand.Given as goal

-- the flushes so far lead on
abbrev pub invariant-loop-flush : goal.invariant-loop-flush
invariant-loop-flush g l = l.search ≡ fold (follow_below l.waits l.on l.limit l.item l.cost) l.initial.search
    (take l.flush-index (declared_by l.waits l.item))
