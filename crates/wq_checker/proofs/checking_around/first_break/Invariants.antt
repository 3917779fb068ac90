use Rattle.std.proofs.Common.{◌≡◌}
use Rattle.wq_groups.specs.DeclaredGroups.{declared_waits}
use Rattle.wq_core.specs.Workqueues.{wiring_of}
use Rattle.wq_checker.specs.Chains.{before_from}
use Rattle.wq_checker.proofs.Breaks.{JoinInUpTo}
use Rattle.wq_checker.proofs.checking_around.first_break.Given as goal

abbrev pub invariant-loop-arc : goal.invariant-loop-arc
invariant-loop-arc g l = record {
  counted : l.at ≡ l.arc-index;
  behind : l.before ≡ before_from l.fn.first l.arcs l.arc-index;
  joined : JoinInUpTo (wiring_of (declared_waits l.start.declared) l.start.workqueues) (before_from l.fn.first l.arcs)
      l.arcs l.arc-index;
}
