use Rattle.std.proofs.Common.{◌≡◌, map, take}
use Rattle.wq_circles.specs.Lists.{head_lists}
use Rattle.wq_circles.proofs.lists.heads.Given as goal

abbrev pub invariant-loop-v : goal.invariant-loop-v
invariant-loop-v g l = map (λ list. list.items) l.lists.items ≡ take l.v (head_lists l.graph)
