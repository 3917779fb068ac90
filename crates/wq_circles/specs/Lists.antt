-- Lists: for each vertex of a wait graph, the vertices that its arcs lead to, and those whose arcs lead to it.
use Rattle.std.specs.Prelude.{◌≡◌, ℕ, ◌<◌, ◌⊎◌, ◌↔◌, List, [], length, map, slice_index_or, Contains}
use Rattle.wq_graph.specs.declared.arc.WaitArc.{WaitArc}

-- the list of vertex v
abbrev pub listed_at : List (List ℕ) → ℕ → List ℕ
listed_at lists v = slice_index_or lists v []

-- vertex w is in the list of vertex v
abbrev pub Next : List (List ℕ) → ℕ → ℕ → Type 0
Next lists v w = Contains (listed_at lists v) w

-- for reversed lists: vertex v is in the list of vertex w
abbrev pub NextBack : List (List ℕ) → ℕ → ℕ → Type 0
NextBack lists v w = Next lists w v

-- the heads of each vertex's arcs, vertex by vertex
abbrev pub head_lists : List (List WaitArc) → List (List ℕ)
head_lists graph = map (λ arcs. map (λ (a : WaitArc). a.head) arcs) graph

-- vertex v is added to the list of each of these heads, and to no other list
pub record HasTails (old new : List (List ℕ)) (v : ℕ) (heads : List ℕ) : Type 0 where
  pub one_each : length new ≡ length old
  pub tails : (u w : ℕ) → w < length old → Next new w u ↔ (Next old w u ⊎ ((u ≡ v) × Contains heads w))

-- the second lists are the first ones reversed: vertex u is in the list of w exactly if w is in that of u
pub record AreTurned (heads tails : List (List ℕ)) : Type 0 where
  pub one_each : length tails ≡ length heads
  pub turned : (u w : ℕ) → w < length heads → Next tails w u ↔ ((u < length heads) × Next heads u w)
