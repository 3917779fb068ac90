-- Searching: what a search from vertex to vertex finds, if others have been found before.
use Rattle.std.specs.Prelude.{◌≡◌, ◌⊎◌, ◌↔◌, ℕ, ◌<◌, ◌≤◌, Bool, true, false, cond, List, [], ◌∷◌, ◌++◌, length, fold}
use Rattle.std.specs.Prelude.{take, slice_index_or, slice_set, Contains}
use Rattle.std.specs.List.{All}
use Rattle.wq_items.specs.Chain.{Repeats}
use Rattle.wq_circles.specs.Leading.{Leads}
use Rattle.wq_circles.specs.Lists.{Next}

-- the mark of vertex w
abbrev pub is_marked : List Bool → ℕ → Bool
is_marked marks w = slice_index_or marks w false

-- a search: which vertices it has found, and in which order
pub record Search : Type 0 where
  pub marks : List Bool
  pub order : List ℕ

-- the search after it has found vertex w
abbrev pub with_found : Search → ℕ → Search
with_found s w = cond (is_marked s.marks w) s (record { marks = slice_set s.marks w true; order = s.order ++ (w ∷ []) })

-- the search after it has found each of these vertices
abbrev pub with_all_found : Search → List ℕ → Search
with_all_found s ws = fold with_found s ws

-- exactly the vertices in the order are marked, and each is there once
pub record AreFound (s : Search) : Type 0 where
  pub below : All (λ w. w < length s.marks) s.order
  pub marked : (w : ℕ) → w < length s.marks → (is_marked s.marks w ≡ true) ↔ Contains s.order w
  pub once : ¬ Repeats s.order

-- vertex w is in the list of vertex v, and hasn't been found
abbrev pub NextNew : List (List ℕ) → Search → ℕ → ℕ → Type 0
NextNew lists s v w = Next lists v w × (¬ Contains s.order w)

-- the search s goes on to t: after what was found before, it finds v and what v leads to by way of unfound vertices
pub record Spreads (lists : List (List ℕ)) (s : Search) (v : ℕ) (t : Search) : Type 0 where
  pub marks : length t.marks ≡ length s.marks
  pub found : AreFound t
  pub keeps : take (length s.order) t.order ≡ s.order
  pub reached : (w : ℕ) → Contains t.order w ↔ (Contains s.order w ⊎ ((w ≡ v) ⊎ Leads (NextNew lists s) v w))

-- c is the lowest of these vertices
pub record IsLeastOf (vertices : List ℕ) (c : ℕ) : Type 0 where
  pub one : Contains vertices c
  pub least : All (λ v. c ≤ v) vertices

-- the lowest of these vertices is the result for each of them; the others keep theirs
pub record AreSettled (vertices old new : List ℕ) : Type 0 where
  pub one_each : length new ≡ length old
  pub settled : (v : ℕ) → Contains vertices v → IsLeastOf vertices (slice_index_or new v 0)
  pub others : (v : ℕ) → (¬ Contains vertices v) → slice_index_or new v 0 ≡ slice_index_or old v 0
