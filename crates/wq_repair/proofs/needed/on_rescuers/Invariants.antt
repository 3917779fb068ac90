use Rattle.wq_repair.proofs.NeededRescuers.{AreOnRescuers}
use Rattle.wq_repair.proofs.needed.on_rescuers.Given as goal

abbrev pub invariant-loop-group : goal.invariant-loop-group
invariant-loop-group g l = AreOnRescuers l.workqueues l.groups l.group l.found
