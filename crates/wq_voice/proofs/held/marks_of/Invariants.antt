use Rattle.std.proofs.Common.{take}
use Rattle.wq_items.proofs.ReadingLists.{AreMarked}
use Rattle.wq_voice.proofs.held.marks_of.Given as goal

-- the items so far are marked
abbrev pub invariant-loop-item : goal.invariant-loop-item
invariant-loop-item g l = AreMarked l.count (take l.item-index l.items) l.marks.items
