-- Wait graphs: for each vertex, the declared flushes that leave it. Vertices are groups, or lanes.
use Rattle.std.specs.Prelude.{◌≡◌, ℕ, ◌<◌, ◌≤◌, ◌==◌, Bool, false, not, if◌then◌else◌, List, [], length, map, flat_map}
use Rattle.std.specs.Prelude.{filter, filter_map, find, slice_index, slice_index_or, Option, Contains}
use Rattle.std.specs.List.{All, Any, range_with_len}
use Rattle.std.specs.List.Sorted.{IsStrictlyIncreasing}
use Rattle.wq_items.specs.declared.target.Target.{Target}
use Rattle.wq_items.specs.Table.{targets_of, flush_count}
use Rattle.wq_groups.specs.Declaration.{Declaration}
use Rattle.wq_groups.specs.Assignment.{Assignment, max_lanes, item_lanes}
use Rattle.wq_graph.specs.declared.arc.WaitArc.{WaitArc}

-- the arc of a flush that item `src` declares, where `vertex_of` has the vertex of each item
abbrev pub arc_of : List ℕ → ℕ → Target → WaitArc
arc_of vertex_of src t = record { src = src; dst = t.item; head = slice_index vertex_of t.item; place = t.place }

-- the arcs of all declared flushes, item by item
abbrev pub arcs_by_item : List (List Target) → List ℕ → List WaitArc
arcs_by_item waits vertex_of =
    flat_map (λ i. map (arc_of vertex_of i) (targets_of waits i)) (range_with_len 0 (length waits))

-- the arc of the flush at this place
abbrev pub arc_at : List (List Target) → List ℕ → ℕ → Option WaitArc
arc_at waits vertex_of place = find (λ (a : WaitArc). a.place == place) (arcs_by_item waits vertex_of)

-- the arcs of all declared flushes, in order of place
abbrev pub arcs_by_place : List (List Target) → List ℕ → List WaitArc
arcs_by_place waits vertex_of = filter_map (arc_at waits vertex_of) (range_with_len 0 (flush_count waits))

-- the arcs that leave vertex v, in order of place
abbrev pub arcs_from : List (List Target) → List ℕ → ℕ → List WaitArc
arcs_from waits vertex_of v = filter (λ (a : WaitArc). slice_index vertex_of a.src == v) (arcs_by_place waits vertex_of)

-- for each of n vertices, the arcs that leave it
abbrev pub graph_of : List (List Target) → List ℕ → ℕ → List (List WaitArc)
graph_of waits vertex_of n = map (arcs_from waits vertex_of) (range_with_len 0 n)

-- the wait graph of the groups of a declaration
abbrev pub group_graph : Declaration → List (List WaitArc)
group_graph d = graph_of d.waits d.group_of d.groups

-- the wait graph of the lanes of an assignment
abbrev pub lane_graph : Declaration → Assignment → List (List WaitArc)
lane_graph d a = graph_of d.waits (item_lanes a d.group_of) a.lanes

-- ---- the same without lists of all arcs

-- the arc is that of a declared flush
pub record IsArc (waits : List (List Target)) (vertex_of : List ℕ) (a : WaitArc) : Type 0 where
  pub declared : Any (λ (t : Target). (t.item ≡ a.dst) × (t.place ≡ a.place)) (targets_of waits a.src)
  pub head : a.head ≡ slice_index vertex_of a.dst

-- each is the arc of a declared flush that leaves v; the arc of each such flush is there; and their places rise
pub record AreArcsFrom (waits : List (List Target)) (vertex_of : List ℕ) (v : ℕ) (arcs : List WaitArc) : Type 0 where
  pub declared : All (λ (a : WaitArc). IsArc waits vertex_of a × (slice_index vertex_of a.src ≡ v)) arcs
  pub all : (a : WaitArc) → IsArc waits vertex_of a → slice_index vertex_of a.src ≡ v → Contains arcs a
  pub in_order : IsStrictlyIncreasing (map (λ (a : WaitArc). a.place) arcs)

-- ---- any wait graph

-- the arcs that leave vertex v
abbrev pub arcs_at : List (List WaitArc) → ℕ → List WaitArc
arcs_at graph v = slice_index_or graph v []

-- an arc leads from vertex v to vertex w
abbrev pub HasArc : List (List WaitArc) → ℕ → ℕ → Type 0
HasArc graph v w = Any (λ (a : WaitArc). a.head ≡ w) (arcs_at graph v)

-- vertex v is left out, given for each vertex whether it is
abbrev pub is_left_out : List Bool → ℕ → Bool
is_left_out out v = slice_index_or out v false

-- the arcs that don't lead to a vertex that is left out
abbrev pub arcs_kept : List Bool → List WaitArc → List WaitArc
arcs_kept out arcs = filter (λ (a : WaitArc). not (is_left_out out a.head)) arcs

-- the arcs that leave vertex v and are kept: none if v is left out itself
abbrev pub arcs_without : List Bool → List (List WaitArc) → ℕ → List WaitArc
arcs_without out graph v = if is_left_out out v then [] else arcs_kept out (arcs_at graph v)

-- the graph without some of its vertices: they keep their numbers, but no arc leaves one or leads to one
abbrev pub without : List Bool → List (List WaitArc) → List (List WaitArc)
without out graph = map (arcs_without out graph) (range_with_len 0 (length graph))

-- what holds for every wait graph: at most 4,096 vertices; each arc leads to one of
-- them; the places of a vertex's arcs rise
pub record IsGraph (graph : List (List WaitArc)) : Type 0 where
  pub few : length graph ≤ max_lanes
  pub heads : All (λ (arcs : List WaitArc). All (λ (a : WaitArc). a.head < length graph) arcs) graph
  pub places_rise : All (λ (arcs : List WaitArc). IsStrictlyIncreasing (map (λ (a : WaitArc). a.place) arcs)) graph
