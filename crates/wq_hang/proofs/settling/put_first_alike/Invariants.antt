use Rattle.wq_hang.proofs.SettledHops.{IsSettled}
use Rattle.wq_hang.proofs.settling.put_first_alike.Given as goal

abbrev pub invariant-loop-at : goal.invariant-loop-at
invariant-loop-at g l = IsSettled l.waits l.initial.hops l.hops l.at
