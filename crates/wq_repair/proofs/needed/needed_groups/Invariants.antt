use Rattle.std.proofs.Common.{◌-◌}
use Rattle.wq_groups.specs.DeclaredGroups.{declared_waits}
use Rattle.wq_repair.specs.Following.{IsFollowed}
use Rattle.wq_repair.proofs.needed.needed_groups.Given as goal

abbrev pub invariant-loop-done : goal.invariant-loop-done
invariant-loop-done g l = IsFollowed (declared_waits l.assigned.declared) l.workqueues l.names l.found l.done

abbrev pub decreases-loop-done : goal.decreases-loop-done
decreases-loop-done g l = l.assigned.declared.partition.groups - l.done
