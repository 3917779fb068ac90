use Rattle.wq_repair.proofs.Homes.{AreVerticesBelow}
use Rattle.wq_repair.proofs.checking.vertices_of.Given as goal

abbrev pub invariant-loop-group : goal.invariant-loop-group
invariant-loop-group g l = AreVerticesBelow l.assignment l.stays l.homes l.group l.vertices.items
