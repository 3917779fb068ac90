use Rattle.std.proofs.Common.{◌≡◌}
use Rattle.wq_rescuer.specs.Executing.{SameFinished}
use Rattle.test_runtime.proofs.loads.server.call_some.Given as goal

-- no finish was counted, and the seat is the same
abbrev pub invariant-loop : goal.invariant-loop
invariant-loop g l = SameFinished l.fn.work.seat.now l.work.seat.now × (l.work.seat.ghost_name ≡ l.fn.work.seat.ghost_name)
