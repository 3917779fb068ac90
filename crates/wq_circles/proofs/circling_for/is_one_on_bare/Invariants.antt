use Rattle.std.proofs.Common.{◌≡◌, false, take}
use Rattle.std.specs.List.{list_any}
use Rattle.wq_deadlock.specs.Judging.{is_on_bare}
use Rattle.wq_circles.proofs.circling_for.is_one_on_bare.Given as goal

abbrev pub invariant-loop-item : goal.invariant-loop-item
invariant-loop-item g l =
    list_any (is_on_bare l.assigned.workqueues l.assigned.declared.partition.group_of) (take l.item-index l.named)
    ≡ false
