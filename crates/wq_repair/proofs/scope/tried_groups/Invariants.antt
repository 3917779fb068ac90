use Rattle.wq_repair.specs.Marks.{Marks}
use Rattle.wq_repair.specs.Ready.{IsTried}
use Rattle.wq_repair.proofs.scope.tried_groups.Given as goal

abbrev pub invariant-loop-group : goal.invariant-loop-group
invariant-loop-group g l = Marks (IsTried l.old l.scope) l.group l.tried.items
