use Rattle.std.proofs.Common.{◌≡◌, take}
use Rattle.wq_hang.specs.WaysFor.{begin_all}
use Rattle.wq_hang.proofs.search.Search.begin_all.Given as goal

-- the items so far begin
abbrev pub invariant-loop-item : goal.invariant-loop-item
invariant-loop-item g l = l.self ≡ begin_all (take l.item-index l.on) l.initial.self
