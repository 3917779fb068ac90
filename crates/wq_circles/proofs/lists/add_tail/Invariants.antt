use Rattle.std.proofs.Common.{map, take}
use Rattle.wq_circles.specs.Lists.{HasTails}
use Rattle.wq_circles.proofs.lists.add_tail.Given as goal

abbrev pub invariant-loop-head : goal.invariant-loop-head
invariant-loop-head g l = HasTails (map (λ list. list.items) l.initial.lists.items) (map (λ list. list.items) l.lists.items) l.vertex (take l.head-index l.heads)
