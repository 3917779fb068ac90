use Rattle.std.proofs.Common.{List, length, ap, ◌∙◌, arith}
use Rattle.std.proofs.lemmas.List.FromFn.{length-map-range_with_len}
use Rattle.std.proofs.lemmas.Result.{IfOk-weaker, on_err_weaker}
use Rattle.wq_groups.specs.DeclaredGroups.{declared_waits}
use Rattle.wq_groups.specs.Assignment.{item_lanes}
use Rattle.wq_graph.specs.declared.arc.WaitArc.{WaitArc}
use Rattle.wq_graph.specs.Graph.{arcs_from, lane_graph, without}
use Rattle.wq_graph.proofs.LeavingOut.{length-without}
use Rattle.wq_circles.specs.Components.{joined, loops}
use Rattle.wq_circles.proofs.joining.loops_joined.Goals as goal

pub returns-clause-loops : goal.returns-clause-loops
returns-clause-loops g c =
    let d = declared_waits c.args.assigned.now.declared in
    let bare = c.args.assigned.now.workqueues.bare in
    let lanes = rw (c.table.ensures.is, c.groups.ensures.is) at c.in_ok-graph.ensures.graph in
    let kept = rw (c.bare.ensures, c.workqueues.ensures.is) at c.in_ok-graph-2.ensures.graph in
    let graph = kept ∙ ap (without bare) (lanes ∙ ap (lane_graph d) c.in_ok-joined.ensures.joined) in
    IfOk-weaker c.loops.result _ _ (λ lists are_loops. are_loops ∙ ap loops graph) c.loops.ensures.loops

pub returns-clause-memory : goal.returns-clause-memory
returns-clause-memory g c =
    let d = declared_waits c.args.assigned.now.declared in
    let a = c.args.assigned.now.workqueues.assignment in
    let bare = c.args.assigned.now.workqueues.bare in
    let lowest = c.args.lowest.now in
    let lanes = rw (c.table.ensures.is, c.groups.ensures.is) at c.in_ok-graph.ensures.graph in
    let kept = rw (c.bare.ensures, c.workqueues.ensures.is) at c.in_ok-graph-2.ensures.graph in
    let graph = kept ∙ ap (without bare) (lanes ∙ ap (lane_graph d) c.in_ok-joined.ensures.joined) in
    let size = ap (λ (h : List (List WaitArc)). length h) graph ∙ length-without bare (lane_graph d (joined a lowest)) ∙ length-map-range_with_len (arcs_from d.waits (item_lanes (joined a lowest) d.group_of)) 0 a.lanes in
    on_err_weaker c.loops.result (λ some. omega (arith, some, size)) c.loops.ensures.memory
