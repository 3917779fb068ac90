use Rattle.std.proofs.Common.{take}
use Rattle.wq_items.proofs.ReadingLists.{AreMarked}
use Rattle.wq_items.proofs.readings.marked.Given as goal

abbrev pub invariant-loop-place : goal.invariant-loop-place
invariant-loop-place g l = AreMarked l.count (take l.place-index l.places) l.marks.items
