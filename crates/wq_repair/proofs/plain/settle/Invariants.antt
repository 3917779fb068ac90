use Rattle.std.proofs.Common.{◌≡◌, List, length}
use Rattle.wq_groups.specs.DeclaredGroups.{declared_waits}
use Rattle.wq_graph.specs.declared.arc.WaitArc.{WaitArc}
use Rattle.wq_repair.specs.Ready.{IsTrial}
use Rattle.wq_repair.specs.Settled.{IsSettled}
use Rattle.wq_repair.proofs.plain.settle.Given as goal

-- the groups so far are settled
abbrev pub invariant-loop-group : goal.invariant-loop-group
invariant-loop-group g l = record {
  one_each : length l.settled.stays ≡ l.start.declared.partition.groups;
  settled : (graph : List (List WaitArc)) → IsTrial
      (declared_waits l.start.declared) l.scope.needed l.fixed l.tried graph
      → IsSettled graph l.old.assignment l.fixed l.tried l.group l.settled;
}
