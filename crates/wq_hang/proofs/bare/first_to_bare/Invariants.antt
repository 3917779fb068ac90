use Rattle.wq_hang.specs.Bare.{IsFirstBelow}
use Rattle.wq_hang.proofs.bare.first_to_bare.Given as goal

abbrev pub invariant-loop-i : goal.invariant-loop-i
invariant-loop-i g l = IsFirstBelow l.waits l.i l.first
