-- Lists of numbers, and waits between vertices at which groups are together.
use Rattle.std.specs.Prelude.{◌≡◌, ◌≢◌, ◌↔◌, ℕ, List, Bool, slice_index, Contains, AllPairs}
use Rattle.wq_graph.specs.declared.arc.WaitArc.{WaitArc}
use Rattle.wq_graph.specs.Graph.{HasArc}
use Rattle.wq_repair.specs.Marks.{IsMarked}

-- just the numbers of which P holds, each once
pub record AreListed (P : ℕ → Type 0) (order : List ℕ) : Type 0 where
  pub exactly : (k : ℕ) → Contains order k ↔ P k
  pub once : AllPairs (λ (j k : ℕ). j ≢ k) order

-- the marked numbers, each once
pub record Lists (marks : List Bool) (order : List ℕ) : Type 0 where
  pub exactly : (k : ℕ) → Contains order k ↔ IsMarked marks k
  pub once : AllPairs (λ (j k : ℕ). j ≢ k) order

-- an arc leads from a group at vertex v to a group at vertex w, where `at` has the vertex of each group
pub record ArcBetween (graph : List (List WaitArc)) (at : List ℕ) (v w : ℕ) : Type 0 where
  pub from : ℕ
  pub to : ℕ
  pub arc : HasArc graph from to
  pub leaves : slice_index at from ≡ v
  pub leads : slice_index at to ≡ w
