use Rattle.std.proofs.Common.{◌≡◌, take}
use Rattle.wq_hang.specs.Search.{reach_all}
use Rattle.wq_hang.proofs.search.Search.reach_all.Given as goal

-- the flush leads to the items so far
abbrev pub invariant-loop-next : goal.invariant-loop-next
invariant-loop-next g l = l.self ≡ reach_all l.near l.cost l.item l.flush (take l.next-index l.on) l.initial.self
