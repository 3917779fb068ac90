use Rattle.std.proofs.Common.{take}
use Rattle.wq_hang.proofs.HopsBack.{IsBackSoFar}
use Rattle.wq_hang.proofs.hop_back.hop_back.Given as goal

abbrev pub invariant-loop-flush : goal.invariant-loop-flush
invariant-loop-flush g l = IsBackSoFar l.waits l.item l.limit (take l.flush-index l.flush-items) l.least l.found
