use Rattle.wq_repair.proofs.Homes.{AreHomesBelow}
use Rattle.wq_repair.proofs.checking.homes_of.Given as goal

abbrev pub invariant-loop-group : goal.invariant-loop-group
invariant-loop-group g l = AreHomesBelow l.assignment l.stays l.group l.homes.items
