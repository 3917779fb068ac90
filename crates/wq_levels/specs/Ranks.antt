-- Ranks: the length of the longest chain that begins at each vertex of a wait graph.
use Rattle.std.specs.Prelude.{◌≡◌, ℕ, ◌<◌, List, length, slice_index}
use Rattle.wq_items.specs.Chain.{IsRank}
use Rattle.wq_graph.specs.declared.arc.WaitArc.{WaitArc}
use Rattle.wq_graph.specs.Graph.{HasArc}

-- one rank for each vertex: the number of vertices on a longest chain that begins there, minus one
pub record AreRanks (graph : List (List WaitArc)) (ranks : List ℕ) : Type 0 where
  pub one_each : length ranks ≡ length graph
  pub longest : (v : ℕ) → v < length graph → IsRank (HasArc graph) v (slice_index ranks v)
