use Rattle.std.proofs.Common.{◌∙◌, length, List, ap}
use Rattle.std.proofs.lemmas.List.FromFn.{length-map-range_with_len}
use Rattle.wq_groups.specs.Declaration.{Declaration, declaration_of}
use Rattle.wq_groups.specs.Assignment.{Assignment, item_lanes}
use Rattle.wq_graph.specs.declared.arc.WaitArc.{WaitArc}
use Rattle.wq_graph.specs.Graph.{arcs_from}
use Rattle.wq_graph.proofs.LeavingOut.{length-without}
use Rattle.wq_core.specs.Workqueues.{Workqueues}
use Rattle.wq_hang.proofs.numbering.lane_numbers.Goals as goal

pub returns : goal.returns
returns g c =
    let d : Declaration = declaration_of c.table.result.now c.groups.result.now in
    let a : Assignment = c.assignment.result.now in
    c.in_ok-numbers.ensures
    ∙ ap (λ (graph : List (List WaitArc)). length graph) c.in_ok-kept.ensures.graph
    ∙ length-without c.bare.result.now c.in_ok-graph.graph
    ∙ ap (λ (graph : List (List WaitArc)). length graph) c.in_ok-graph.ensures.graph
    ∙ length-map-range_with_len (arcs_from d.waits (item_lanes a d.group_of)) 0 a.lanes
    ∙ ap (λ (b : Assignment). b.lanes) c.assignment.ensures
    ∙ ap (λ (ws : Workqueues). ws.assignment.lanes) c.workqueues-workqueues.ensures.is
