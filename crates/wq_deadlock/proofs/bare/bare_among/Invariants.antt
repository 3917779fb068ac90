use Rattle.std.proofs.Common.{◌≡◌, take}
use Rattle.std.specs.Prelude.{filter}
use Rattle.wq_deadlock.specs.Judging.{leads_to_bare}
use Rattle.wq_deadlock.proofs.bare.bare_among.Given as goal

abbrev pub invariant-loop-arc : goal.invariant-loop-arc
invariant-loop-arc g l =
    l.waits.items ≡ filter (leads_to_bare l.assigned.workqueues l.assigned.declared.partition.group_of)
    (take l.arc-index l.arcs)
