-- Heights: how many new workqueues those take that wait for one another, one behind the other.
use Rattle.std.specs.Prelude.{◌≡◌, ℕ, ◌+◌, ◌<◌, ◌≤◌, List, ◌∷◌, length, slice_index}
use Rattle.wq_items.specs.Chain.{IsChain}
use Rattle.wq_groups.specs.Declaration.{Declaration}
use Rattle.wq_groups.specs.Assignment.{group_lane}
use Rattle.wq_graph.specs.declared.arc.WaitArc.{WaitArc}
use Rattle.wq_graph.specs.Graph.{HasArc}
use Rattle.wq_core.specs.Workqueues.{Workqueues}
use Rattle.wq_deadlock.specs.Judging.{rescued_graph}
use Rattle.wq_fixed.specs.Fixed.{Fixed, IsFree, Keeps, fixed_lanes, new_among, start}

-- the wait graph of the start's lanes that have a rescuer
abbrev pub start_graph : Declaration → Fixed → List (List WaitArc)
start_graph d f = rescued_graph d (start f)

-- n is the greatest number of new lanes on a chain that begins at lane q
pub record IsHeight (graph : List (List WaitArc)) (f : Fixed) (q n : ℕ) : Type 0 where
  pub others : List ℕ
  pub chain : IsChain (HasArc graph) (q ∷ others)
  pub count : new_among f (q ∷ others) ≡ n
  pub most : (more : List ℕ) → IsChain (HasArc graph) (q ∷ more) → new_among f (q ∷ more) ≤ n

-- the height of each lane in turn
pub record AreHeights (graph : List (List WaitArc)) (f : Fixed) (heights : List ℕ) : Type 0 where
  pub one_each : length heights ≡ length graph
  pub greatest : (q : ℕ) → q < length graph → IsHeight graph f q (slice_index heights q)

-- workqueues that keep the fixed ones: a free group whose lane in the start has height n is on the nth new workqueue,
-- and each new workqueue holds a free group
pub record IsPlanAround (d : Declaration) (f : Fixed) (ws : Workqueues) : Type 0 where
  pub keeps : Keeps f ws
  pub heights : (g n : ℕ) → IsFree f g → IsHeight (start_graph d f) f (group_lane (start f).assignment g) n
      → group_lane ws.assignment g + 1 ≡ fixed_lanes f + n
  pub held : (q : ℕ) → fixed_lanes f ≤ q → q < ws.assignment.lanes
      → (g : ℕ) × IsFree f g × (group_lane ws.assignment g ≡ q)
