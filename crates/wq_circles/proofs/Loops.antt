-- The loops of the wait graph of an assignment: the arcs of each, and how many there are.
use Rattle.std.proofs.Common.{◌≡◌, ℕ, ◌<◌, ◌≤◌, ◌==◌, not, Bool, List, length, map, sym, ap, subst, arith}
use Rattle.std.specs.List.{All, range_with_len, slice_index}
use Rattle.std.proofs.lemmas.List.Elements.{All-filter, All-map}
use Rattle.std.proofs.lemmas.List.FromFn.{length-map-range_with_len}
use Rattle.std.proofs.lemmas.List.Sums.{length-filter, count_by-le-length}
use Rattle.wq_items.specs.Table.{ItemWaits, flush_count}
use Rattle.wq_items.proofs.Lists.{range_with_len-below}
use Rattle.wq_items.proofs.Tables.{ItemWaits-below}
use Rattle.wq_groups.specs.Declaration.{Declaration, IsDeclaration}
use Rattle.wq_groups.specs.Assignment.{Assignment, IsAssignment, item_lanes}
use Rattle.wq_graph.specs.declared.arc.WaitArc.{WaitArc}
use Rattle.wq_graph.specs.Graph.{arcs_by_place, arcs_at, IsArc}
use Rattle.wq_graph.proofs.Arcs.{src-below, ByPlace-arcs_by_place}
use Rattle.wq_graph.proofs.Graphs.{arcs_at-graph_of}
use Rattle.wq_circles.proofs.KeptLanes.{AreArcsFrom-kept, length-kept, fewer-kept}
use Rattle.wq_circles.specs.Components.{joined, kept_graph, loops_at, loops, AreComponents}
use Rattle.wq_circles.specs.ComponentsText.{AreBetween}
use Rattle.wq_circles.proofs.Joined.{IsAssignment-joined}

module _ (d : Declaration) (a : Assignment) (bare : List Bool) (declaration : IsDeclaration d) (assignment : IsAssignment d.groups a) where
  pub size : length (kept_graph d a bare) ≡ a.lanes
  size = length-kept d a bare declaration assignment

  -- an arc joins items
  pub IsArc-items : (b : WaitArc) → IsArc d.waits (item_lanes a d.group_of) b → (b.src < length d.group_of) × (b.dst < length d.group_of)
  IsArc-items b arc =
      let t = arc.declared in
      let waits : ItemWaits d.waits b.src b.dst = (t.0, t.1, t.2, t.3, t.4.0) in
      (omega (arith, src-below d.waits (item_lanes a d.group_of) b arc, declaration.one_list_each), ItemWaits-below (length d.group_of) d.waits declaration.targets_are_items b.src b.dst waits)

  -- a vertex has no more loops than there are flushes
  few_loops : (v : ℕ) → v < a.lanes → length (loops_at (kept_graph d a bare) v) ≤ flush_count d.waits
  few_loops v lane =
      let vertex_of = item_lanes a d.group_of in
      let arcs = arcs_at (kept_graph d a bare) v in
      let by_place = arcs_by_place d.waits vertex_of in
      let own : length (loops_at (kept_graph d a bare) v) ≤ length arcs = omega (arith, length-filter (λ (b : WaitArc). b.head == v) arcs, count_by-le-length (λ (b : WaitArc). b.head == v) arcs) in
      let all : length arcs ≤ length by_place =
      omega (arith, fewer-kept d a bare declaration assignment v, ap (λ (l : List WaitArc). length l) (arcs_at-graph_of d.waits vertex_of a.lanes v lane), length-filter (λ (b : WaitArc). slice_index vertex_of b.src == v) by_place, count_by-le-length (λ (b : WaitArc). slice_index vertex_of b.src == v) by_place) in
      omega (arith, own, all, (ByPlace-arcs_by_place d.waits vertex_of declaration.places_are_numbered).long)

  AreBetween-loops_at : (v : ℕ) → v < a.lanes → AreBetween (length d.group_of) (loops_at (kept_graph d a bare) v)
  AreBetween-loops_at v lane =
      let arcs = AreArcsFrom-kept d a bare declaration assignment v in (
        omega (arith, few_loops v lane, declaration.few_flushes),
        All-filter (λ (b : WaitArc). b.head == v) (λ (b : WaitArc). (b.src < length d.group_of) × (b.dst < length d.group_of)) (arcs_at (kept_graph d a bare) v)
            (λ k e within. IsArc-items _ (arcs.declared k e within).0),
      )

  pub AreBetween-loops : All (AreBetween (length d.group_of)) (loops (kept_graph d a bare))
  AreBetween-loops =
      All-filter (λ (arcs : List WaitArc). not (length arcs == 0)) (AreBetween (length d.group_of)) (map (loops_at (kept_graph d a bare)) (range_with_len 0 (length (kept_graph d a bare))))
      (All-map (AreBetween (length d.group_of)) (loops_at (kept_graph d a bare)) (range_with_len 0 (length (kept_graph d a bare)))
      (λ k e within. AreBetween-loops_at _ (omega (arith, range_with_len-below (length (kept_graph d a bare)) k e within, size))))

  pub length-loops : length (loops (kept_graph d a bare)) ≤ a.lanes
  length-loops =
      let lists = map (loops_at (kept_graph d a bare)) (range_with_len 0 (length (kept_graph d a bare))) in
      omega (
        arith,
        length-filter (λ (arcs : List WaitArc). not (length arcs == 0)) lists,
        count_by-le-length (λ (arcs : List WaitArc). not (length arcs == 0)) lists,
        length-map-range_with_len (loops_at (kept_graph d a bare)) 0 (length (kept_graph d a bare)),
        size,
      )

module _ (d : Declaration) (a : Assignment) (bare : List Bool) (declaration : IsDeclaration d) (assignment : IsAssignment d.groups a) (components : List (List WaitArc)) (are : AreComponents d (record { assignment = a; bare = bare }) components) where
  pub IsAssignment-components : IsAssignment d.groups (joined a are.lowest)
  IsAssignment-components = IsAssignment-joined _ d.groups a are.lowest are.are_lowest assignment

  pub AreBetween-components : All (AreBetween (length d.group_of)) components
  AreBetween-components = subst (All (AreBetween (length d.group_of))) (sym are.are) (AreBetween-loops d (joined a are.lowest) bare declaration IsAssignment-components)

  pub length-components : length components ≤ a.lanes
  length-components = omega (arith, ap (λ (l : List (List WaitArc)). length l) are.are, length-loops d (joined a are.lowest) bare declaration IsAssignment-components)
