use Rattle.std.proofs.Common.{take}
use Rattle.wq_hang.proofs.FirstHops.{IsFirstWith}
use Rattle.wq_hang.proofs.bare.first_with.Given as goal

abbrev pub invariant-loop-flush : goal.invariant-loop-flush
invariant-loop-flush g l = IsFirstWith l.waits l.item (take l.flush-index l.flush-items) l.first
