use Rattle.std.proofs.Common.{take}
use Rattle.wq_items.proofs.ReadingLists.{AreMarked}
use Rattle.wq_hang.proofs.Fewest.{unsure_at}
use Rattle.wq_hang.proofs.needed.marked.Given as goal

abbrev pub invariant-loop-hop : goal.invariant-loop-hop
invariant-loop-hop g l = AreMarked l.count (unsure_at (take l.hop-index l.hops)) l.marks.items
