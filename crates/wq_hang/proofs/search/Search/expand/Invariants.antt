use Rattle.std.proofs.Common.{◌≡◌, take, fold}
use Rattle.wq_core.specs.Wiring.{declared_by}
use Rattle.wq_hang.specs.Search.{follow}
use Rattle.wq_hang.proofs.search.Search.expand.Given as goal

-- the flushes so far lead on
abbrev pub invariant-loop-flush : goal.invariant-loop-flush
invariant-loop-flush g l = l.self ≡ fold (follow l.waits l.on l.bounds l.first l.item l.cost) l.initial.self
    (take l.flush-index (declared_by l.waits l.item))
