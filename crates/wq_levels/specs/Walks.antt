-- Walks along arcs of a wait graph, and the circle that is the result if there is one.
use Rattle.std.specs.Prelude.{◌≡◌, ◌≢◌, ◌↔◌, ℕ, ◌+◌, ◌-◌, ◌<◌, ◌≤◌, List, [], ◌∷◌, ◌++◌, length, slice_index}
use Rattle.std.specs.Prelude.{slice_index_or, SomeIndex, Contains, AllPairs}
use Rattle.std.specs.List.{All}
use Rattle.wq_items.specs.Chain.{BeginsChain}
use Rattle.wq_graph.specs.declared.arc.WaitArc.{WaitArc}
use Rattle.wq_graph.specs.Graph.{HasArc, arcs_at}

-- a chain with one vertex more than the graph has begins at v: so v stays, however often the vertices without an arc
-- into what is left are removed
abbrev pub Remains : List (List WaitArc) → ℕ → Type 0
Remains graph v = (v < length graph) × BeginsChain (HasArc graph) v (length graph + 1)

-- the rank is the number of vertices at exactly those vertices that remain, and some vertex remains
pub record MarkRemaining (graph : List (List WaitArc)) (ranks : List ℕ) : Type 0 where
  pub one_each : length ranks ≡ length graph
  pub marked : (v : ℕ) → v < length graph → (slice_index ranks v ≡ length graph) ↔ Remains graph v
  pub some : SomeIndex ranks (λ v. slice_index ranks v ≡ length graph)

-- v remains, and no lower-numbered vertex does
pub record IsLeastRemaining (graph : List (List WaitArc)) (v : ℕ) : Type 0 where
  pub remains : Remains graph v
  pub least : (w : ℕ) → w < v → ¬ Remains graph w

-- among the arcs of v to a vertex that remains, this is the one of lowest place
pub record IsWayOn (graph : List (List WaitArc)) (v : ℕ) (a : WaitArc) : Type 0 where
  pub leaves : Contains (arcs_at graph v) a
  pub remains : Remains graph a.head
  pub least : All (λ (b : WaitArc). Remains graph b.head → a.place ≤ b.place) (arcs_at graph v)

-- the arcs lead from v to w; each is the way on from the vertex that the one before it led to
abbrev pub IsWalk : List (List WaitArc) → ℕ → List WaitArc → ℕ → Type 0
IsWalk graph v [] w = v ≡ w
IsWalk graph v (a ∷ arcs) w = IsWayOn graph v a × IsWalk graph a.head arcs w

-- the vertices that the arcs of a walk leave, one for each arc; the first leaves v
abbrev pub vertices_walked : ℕ → List WaitArc → List ℕ
vertices_walked v [] = []
vertices_walked v (a ∷ arcs) = v ∷ vertices_walked a.head arcs

-- the circle of the walk from the lowest-numbered remaining vertex. The walk leads to the entry of the circle, then
-- round it and back to the entry. Until then it leaves no vertex twice, so the entry is the first vertex that repeats.
-- What leads to the entry isn't part of the circle
pub record IsWalkedCircle (graph : List (List WaitArc)) (circle : List WaitArc) : Type 0 where
  pub start : ℕ
  pub least : IsLeastRemaining graph start
  pub lead_in : List WaitArc
  pub entry : ℕ
  pub leads_in : IsWalk graph start lead_in entry
  pub comes_back : IsWalk graph entry circle entry
  pub some : circle ≢ []
  pub once : AllPairs (λ (v w : ℕ). v ≢ w) (vertices_walked start (lead_in ++ circle))

-- arcs of the graph, at least one, that lead round a circle: `left` has the vertex that each of them leaves; each leads
-- to the vertex that the next one leaves, and the last one to the vertex that the first one leaves; no vertex is left
-- twice
pub record LeadsRound (graph : List (List WaitArc)) (circle : List WaitArc) : Type 0 where
  pub some : circle ≢ []
  pub left : List ℕ
  pub one_each : length left ≡ length circle
  pub leaves : (k : ℕ) (d : WaitArc) → k < length circle
      → Contains (arcs_at graph (slice_index left k)) (slice_index_or circle k d)
  pub joined : (k : ℕ) (d : WaitArc) → k + 1 < length circle
      → (slice_index_or circle k d).head ≡ slice_index left (k + 1)
  pub closes : (d : WaitArc) → (slice_index_or circle (length circle - 1) d).head ≡ slice_index left 0
  pub once : AllPairs (λ (v w : ℕ). v ≢ w) left
