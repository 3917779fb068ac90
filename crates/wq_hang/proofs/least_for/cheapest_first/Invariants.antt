use Rattle.std.proofs.Common.{◌≡◌, map, take}
use Rattle.wq_hang.proofs.least_for.cheapest_first.Given as goal

-- the numbers behind the costs so far
abbrev pub invariant-loop-key : goal.invariant-loop-key
invariant-loop-key g l = l.list.items ≡ map (λ key. key.1) (take l.key-index l.key-items)
