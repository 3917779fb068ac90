use Rattle.wq_hang.proofs.SettledFor.{IsHeldSettled}
use Rattle.wq_hang.proofs.settling.settle_held.Given as goal

abbrev pub invariant-loop-at : goal.invariant-loop-at
invariant-loop-at g l = IsHeldSettled l.waits l.initial.hops l.hops l.at
