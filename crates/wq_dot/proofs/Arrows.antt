-- Flushes in order of place: from an item to an item, each at one of the places.
use Rattle.std.proofs.Common.{◌≡◌, ℕ, ◌<◌, List, length, get_or, sym, ap, subst, ◌∙◌, arith}
use Rattle.std.specs.List.{All}
use Rattle.wq_items.specs.Table.{Table, IsTable, flush_count}
use Rattle.wq_items.proofs.Tables.{ItemWaits-below}
use Rattle.wq_graph.specs.declared.arc.WaitArc.{WaitArc}
use Rattle.wq_graph.specs.Graph.{arcs_by_place, IsArc}
use Rattle.wq_graph.proofs.Arcs.{src-below, ByPlace-arc, ByPlace-arcs_by_place}
use Rattle.wq_graph.proofs.Graphs.{IsArc-by_place}

pub record IsDrawable (t : Table) (a : WaitArc) : Type 0 where
  pub item : a.src < length t.names
  pub target : a.dst < length t.names
  pub place : a.place < flush_count t.waits

pub IsDrawable-by_place : (t : Table) (vertex_of : List ℕ) → IsTable t → All (IsDrawable t) (arcs_by_place t.waits vertex_of)
IsDrawable-by_place t vertex_of table k d within =
    let arcs : List WaitArc = arcs_by_place t.waits vertex_of in
    let a : WaitArc = get_or arcs k d in
    let arc : IsArc t.waits vertex_of a = IsArc-by_place t.waits vertex_of table.places_are_numbered k d within in
    let by_place = ByPlace-arcs_by_place t.waits vertex_of table.places_are_numbered in
    record {
      item = omega (arith, src-below t.waits vertex_of a arc, table.one_list_each);
      target = ItemWaits-below (length t.names) t.waits table.targets_are_items a.src a.dst (arc.declared.0, arc.declared.1, arc.declared.2, arc.declared.3, arc.declared.4.0);
      place = omega (arith, within, by_place.long, (ByPlace-arc t.waits vertex_of table.places_are_numbered arcs by_place k d within).1);
    }

-- one of them
pub IsDrawable-at : (t : Table) (vertex_of : List ℕ) (arcs : List WaitArc) (k : ℕ) (a : WaitArc) → IsTable t → arcs ≡ arcs_by_place t.waits vertex_of → k < length arcs → a ≡ get_or arcs k a → IsDrawable t a
IsDrawable-at t vertex_of arcs k a table is within found =
    subst (IsDrawable t) (sym (found ∙ ap (λ (l : List WaitArc). get_or l k a) is)) (IsDrawable-by_place t vertex_of table k a (omega (arith, within, ap length is)))
