use Rattle.std.proofs.Common.{◌≡◌, take}
use Rattle.wq_script.proofs.Waits.{HasFlushed}
use Rattle.wq_script.proofs.flushing.flush_each.Given as goal

-- the targets so far are flushed
abbrev pub invariant-loop-target : goal.invariant-loop-target
invariant-loop-target g l =
    HasFlushed l.fn.work.seat.now l.work.seat.now (take l.target-index l.targets) × (l.work.seat.ghost_name ≡ l.fn.work.seat.ghost_name)
