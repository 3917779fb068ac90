-- Removing vertices from a wait graph, as in a topological sort: a vertex is removed once all of its arcs are gone, and
-- the arcs that lead to it go with it.
use Rattle.std.specs.Prelude.{◌≡◌, ◌↔◌, ℕ, ◌+◌, ◌-◌, ◌<◌, ◌==◌, cond, max, List, [], ◌∷◌, ◌++◌, length, map, flat_map}
use Rattle.std.specs.Prelude.{replicate, fold, count_by, slice_index, slice_index_or, slice_set, Contains}
use Rattle.std.specs.List.{range_with_len}
use Rattle.wq_buckets.specs.Places.{places_of}
use Rattle.wq_items.specs.Chain.{IsRank, Repeats}
use Rattle.wq_graph.specs.declared.arc.WaitArc.{WaitArc}
use Rattle.wq_graph.specs.Graph.{HasArc, arcs_at}
use Rattle.wq_levels.specs.Walks.{Remains}

-- ---- against the arcs

-- how often vertex v is in the list
abbrev pub times : List ℕ → ℕ → ℕ
times vs v = count_by (λ (u : ℕ). u == v) vs

-- how many of these arcs lead to vertex w
abbrev pub arcs_to : List WaitArc → ℕ → ℕ
arcs_to arcs w = count_by (λ (a : WaitArc). a.head == w) arcs

-- the list of vertex w
abbrev pub tails_at : List (List ℕ) → ℕ → List ℕ
tails_at tails w = slice_index_or tails w []

-- for each vertex, the vertices from which arcs lead to it, once for each arc
pub record AreTails (graph : List (List WaitArc)) (tails : List (List ℕ)) : Type 0 where
  pub one_each : length tails ≡ length graph
  pub turned : (v w : ℕ) → w < length graph → times (tails_at tails w) v ≡ arcs_to (arcs_at graph v) w

-- the vertices that all arcs lead to, arc by arc and vertex by vertex
abbrev pub heads_of : List (List WaitArc) → List ℕ
heads_of graph = map (λ (a : WaitArc). a.head) (flat_map (λ arcs. arcs) graph)

-- the vertices that all arcs leave, in the same order
abbrev pub tails_of : List (List WaitArc) → List ℕ
tails_of graph = flat_map (λ v. replicate (length (arcs_at graph v)) v) (range_with_len 0 (length graph))

-- for each vertex in turn, the vertices from which arcs lead to it
abbrev pub tails_by_head : List (List WaitArc) → List (List ℕ)
tails_by_head graph =
    map (λ w. map (slice_index (tails_of graph)) (places_of (heads_of graph) w)) (range_with_len 0 (length graph))

-- ---- under way

-- for each vertex, how many of its arcs are left, and its rank by those that are gone; and the vertices without arcs
-- left, in the order in which they lost the last one
pub record Taking : Type 0 where
  pub remaining : List ℕ
  pub ranks : List ℕ
  pub order : List ℕ

-- those of the first n vertices that have no arc left, each once
pub record AreFree (n : ℕ) (remaining order : List ℕ) : Type 0 where
  pub free : (v : ℕ) → Contains order v ↔ ((v < n) × (slice_index remaining v ≡ 0))
  pub once : ¬ Repeats order

-- the state after an arc of vertex v to a vertex of this rank is gone
abbrev pub with_arc_gone : ℕ → Taking → ℕ → Taking
with_arc_gone rank p v = record {
  remaining = slice_set p.remaining v (slice_index p.remaining v - 1);
  ranks = slice_set p.ranks v (max (slice_index p.ranks v) (rank + 1));
  order = cond (slice_index p.remaining v == 1) (p.order ++ (v ∷ [])) p.order;
}

-- the state after an arc of each of these vertices to a vertex of this rank is gone
abbrev pub with_arcs_gone : ℕ → Taking → List ℕ → Taking
with_arcs_gone rank p vs = fold (with_arc_gone rank) p vs

-- ---- at the end

-- each vertex without arcs left has its rank, and each other one remains
pub record AreTakenOff (graph : List (List WaitArc)) (remaining ranks : List ℕ) : Type 0 where
  pub one_each : length remaining ≡ length graph
  pub one_rank_each : length ranks ≡ length graph
  pub ranked : (v : ℕ) → v < length graph → slice_index remaining v ≡ 0 → IsRank (HasArc graph) v (slice_index ranks v)
  pub held : (v : ℕ) → v < length graph → 0 < slice_index remaining v → Remains graph v

-- each vertex with arcs left has this rank now, and each other one keeps its own
pub record AreMarked (remaining : List ℕ) (mark : ℕ) (old new : List ℕ) : Type 0 where
  pub one_each : length new ≡ length old
  pub marked : (v : ℕ) → v < length remaining → 0 < slice_index remaining v → slice_index new v ≡ mark
  pub kept : (v : ℕ) → slice_index remaining v ≡ 0 → slice_index new v ≡ slice_index old v
