use Rattle.std.proofs.Common.{◌≡◌}
use Rattle.wq_api.proofs.condvars.Condvars.wake_everybody.Given as goal

-- those of the workqueues so far were woken
abbrev pub invariant-loop-q : goal.invariant-loop-q
invariant-loop-q g l = l.rung.count ≡ l.q
