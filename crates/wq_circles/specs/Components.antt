-- Components: the flushes that are on a circle, put together by the workqueues that lead to one another.
use Rattle.std.specs.Prelude.{◌≡◌, ℕ, ◌==◌, not, Bool, List, length, map, filter, slice_index}
use Rattle.std.specs.List.{range_with_len}
use Rattle.wq_groups.specs.Declaration.{Declaration}
use Rattle.wq_groups.specs.Assignment.{Assignment}
use Rattle.wq_graph.specs.declared.arc.WaitArc.{WaitArc}
use Rattle.wq_graph.specs.Graph.{HasArc, arcs_at, lane_graph, without}
use Rattle.wq_core.specs.Workqueues.{Workqueues}
use Rattle.wq_circles.specs.Leading.{AreLowest}

-- the assignment in which the workqueues of each strongly connected component are joined: each group is on the
-- lowest-numbered workqueue that is together with its own, which `lowest` has for each workqueue. The number of
-- workqueues stays the same
abbrev pub joined : Assignment → List ℕ → Assignment
joined a lowest = record { lanes = a.lanes; lane_of_group = map (slice_index lowest) a.lane_of_group }

-- the arcs that leave vertex v and lead back to it
abbrev pub loops_at : List (List WaitArc) → ℕ → List WaitArc
loops_at graph v = filter (λ (a : WaitArc). a.head == v) (arcs_at graph v)

-- the loops of each vertex, in vertex order, without the vertices that have none
abbrev pub loops : List (List WaitArc) → List (List WaitArc)
loops graph =
    filter (λ (arcs : List WaitArc). not (length arcs == 0)) (map (loops_at graph) (range_with_len 0 (length graph)))

-- the wait graph of an assignment's lanes, without the bare ones
abbrev pub kept_graph : Declaration → Assignment → List Bool → List (List WaitArc)
kept_graph d a bare = without bare (lane_graph d a)

-- the arcs of each component of the workqueues that have a rescuer: an arc is on a circle exactly if its two workqueues
-- are joined. So the components are in the order of their lowest-numbered workqueues, and the arcs of each are in order
-- of place
pub record AreComponents (d : Declaration) (ws : Workqueues) (components : List (List WaitArc)) : Type 0 where
  pub lowest : List ℕ
  pub are_lowest : AreLowest (HasArc (kept_graph d ws.assignment ws.bare)) ws.assignment.lanes lowest
  pub are : components ≡ loops (kept_graph d (joined ws.assignment lowest) ws.bare)
