use Rattle.std.proofs.Common.{◌≡◌, take}
use Rattle.wq_groups.specs.DeclaredGroups.{declared_waits}
use Rattle.wq_core.specs.Workqueues.{wiring_of}
use Rattle.wq_checker.proofs.NewLanes.{new_targets}
use Rattle.wq_checker.proofs.checking_around.count_new.Given as goal

abbrev pub invariant-loop-arc : goal.invariant-loop-arc
invariant-loop-arc g l = l.count ≡ new_targets (wiring_of (declared_waits l.start.declared) l.start.workqueues) l.new
    (take l.arc-index l.arcs)
