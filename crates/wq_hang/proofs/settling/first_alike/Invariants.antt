use Rattle.std.proofs.Common.{take}
use Rattle.wq_hang.proofs.SettledHops.{IsFirstSoFar}
use Rattle.wq_hang.proofs.settling.first_alike.Given as goal

abbrev pub invariant-loop-flush : goal.invariant-loop-flush
invariant-loop-flush g l = IsFirstSoFar l.waits l.hop (take l.flush-index l.flush-items) l.first
