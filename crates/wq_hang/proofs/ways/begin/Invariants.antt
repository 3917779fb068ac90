use Rattle.std.proofs.Common.{take}
use Rattle.wq_hang.proofs.WaysFound.{AreBegun, AreBehind}
use Rattle.wq_hang.proofs.ways.begin.Given as goal

-- the starts so far cost nothing
abbrev pub invariant-loop-item : goal.invariant-loop-item
invariant-loop-item g l = AreBegun l.waits l.starts l.limit (take l.item-index l.starts) l.search

-- those on the lanes of the starts so far are behind these
abbrev pub invariant-loop-item-2 : goal.invariant-loop-item-2
invariant-loop-item-2 g l = AreBehind l.waits l.starts l.limit (take l.item-index l.starts) l.search
