use Rattle.std.proofs.Common.{◌<◌, List, length, ap, ap₂, ◌∙◌, arith}
use Rattle.std.proofs.lemmas.List.FromFn.{length-map-range_with_len}
use Rattle.std.proofs.lemmas.Result.{IfOk-weaker}
use Rattle.wq_groups.specs.DeclaredGroups.{declared_waits}
use Rattle.wq_groups.specs.Assignment.{item_lanes}
use Rattle.wq_graph.specs.declared.arc.WaitArc.{WaitArc}
use Rattle.wq_graph.specs.Graph.{arcs_from, without}
use Rattle.wq_deadlock.proofs.BareLanes.{OnErr-some}
use Rattle.wq_deadlock.proofs.workqueues.rescued_graph.Goals as goal

pub returns-clause-graph : goal.returns-clause-graph
returns-clause-graph g c =
    let lanes = rw (c.table.ensures.is, c.groups.ensures.is, c.assignment.ensures, c.workqueues-workqueues.ensures.is)
    at c.in_ok-graph.ensures.graph in
    let bare = rw c.workqueues-workqueues.ensures.is at c.bare.ensures in
    IfOk-weaker c.without.result _ _ (λ kept is. is ∙ ap₂ without bare lanes) c.without.ensures.graph

pub returns-clause-memory : goal.returns-clause-memory
returns-clause-memory g c =
    let d = declared_waits c.args.assigned.now.declared in
    let a = c.args.assigned.now.workqueues.assignment in
    let lanes = rw (c.table.ensures.is, c.groups.ensures.is, c.assignment.ensures, c.workqueues-workqueues.ensures.is)
    at c.in_ok-graph.ensures.graph in
    OnErr-some c.without.result (length c.in_ok-graph.graph) (0 < a.lanes) c.without.ensures.memory (λ some.
    omega (
      arith,
      some,
      ap (λ (h : List (List WaitArc)). length h) lanes,
      length-map-range_with_len (arcs_from d.waits (item_lanes a d.group_of)) 0 a.lanes,
    ))
