use Rattle.wq_repair.specs.Marks.{Marks}
use Rattle.wq_repair.specs.Ready.{IsButNot}
use Rattle.wq_repair.proofs.scope.but_not.Given as goal

abbrev pub invariant-loop-group : goal.invariant-loop-group
invariant-loop-group g l = Marks (IsButNot l.one l.other) l.group l.both.items
