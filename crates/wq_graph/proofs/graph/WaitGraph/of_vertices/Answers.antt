use Rattle.std.proofs.Common.{List, ◌<◌, length, arith, sym, subst, ◌∙◌}
use Rattle.std.specs.Prelude.{flat_map}
use Rattle.wq_items.specs.Table.{TargetsBelow}
use Rattle.std.specs.List.{All}
use Rattle.wq_graph.specs.declared.arc.WaitArc.{WaitArc}
use Rattle.wq_graph.specs.Graph.{IsGraph, arcs_by_place}
use Rattle.wq_graph.proofs.Arcs.{ByPlace-arcs_by_place}
use Rattle.wq_graph.proofs.Graphs.{IsGraph-graph_of, few_arcs}
use Rattle.wq_graph.proofs.graph.WaitGraph.of_vertices.Goals as goal

pub invariant_of-result : goal.invariant_of-result
invariant_of-result g c =
    let sorted = c.in_ok-arcs.ensures in
    let table = sorted.table in
    let waits = c.args.table.now.waits in
    let vertex_of = c.args.vertex_of.now in
    let vertices = c.args.vertices in (
      subst IsGraph (sym sorted.graph) (IsGraph-graph_of waits vertex_of vertices (
          record {
            one_each = table.one_list_each ∙ sym c.requires.one_each;
            within = c.requires.within;
            targets_are_items = subst (λ n. All (TargetsBelow n) waits) (sym c.requires.one_each) table.targets_are_items;
            numbered = table.places_are_numbered;
          }
          ) c.requires.few),
      subst (λ (graph : List (List WaitArc)). length (flat_map (λ (l : List WaitArc). l) graph) < 4294967296)
          (sym sorted.graph) (
          few_arcs vertex_of (arcs_by_place waits vertex_of) vertices
          (omega (
            arith,
            (ByPlace-arcs_by_place waits vertex_of table.places_are_numbered).long,
            table.few_flushes,
          )) c.requires.few
          ),
    )
