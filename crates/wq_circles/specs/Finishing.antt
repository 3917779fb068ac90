-- Finishing: a depth-first search, and the order in which it finishes the vertices.
use Rattle.std.specs.Prelude.{◌≡◌, ◌⊎◌, ◌↔◌, ℕ, ◌+◌, ◌-◌, ◌*◌, ◌<◌, ◌≤◌, Bool, true, false, Option, MatchOption, List}
use Rattle.std.specs.Prelude.{[], ◌∷◌, ◌++◌, length, take, slice_index, slice_set, Contains}
use Rattle.std.specs.List.{All}
use Rattle.wq_items.specs.Chain.{Repeats}
use Rattle.wq_circles.specs.Leading.{Leads}
use Rattle.wq_circles.specs.Lists.{Next, listed_at}
use Rattle.wq_circles.specs.Searching.{is_marked}

-- ---- the order

-- v is at place k of the list or before it
abbrev pub StandsBy : List ℕ → ℕ → ℕ → Type 0
StandsBy xs k v = (j : ℕ) × (j ≤ k) × (j < length xs) × (slice_index xs j ≡ v)

-- each time a vertex is finished: if an arc of a finished vertex leads to an unfinished one, that one leads to the
-- vertex finished last
abbrev pub LeadToLast : (ℕ → ℕ → Type 0) → List ℕ → Type 0
LeadToLast R finished =
    (k i w : ℕ) → i ≤ k → k < length finished → R (slice_index finished i) w
    → StandsBy finished k w ⊎ Leads R w (slice_index finished k)

-- an order in which a depth-first search finishes n vertices: each once
pub record IsFinishing (R : ℕ → ℕ → Type 0) (n : ℕ) (finished : List ℕ) : Type 0 where
  pub below : All (λ v. v < n) finished
  pub all : (v : ℕ) → v < n → Contains finished v
  pub once : ¬ Repeats finished
  pub leads : LeadToLast R finished

-- ---- the search

-- which vertices have been visited; for each vertex, how many of its arcs are known to lead to visited ones; the path
-- to the vertex where the search is; and the finished vertices, in the order in which they were finished
pub record Walk : Type 0 where
  pub visited : List Bool
  pub followed : List ℕ
  pub path : List ℕ
  pub finished : List ℕ

-- vertex v has been visited
abbrev pub IsVisited : Walk → ℕ → Type 0
IsVisited s v = is_marked s.visited v ≡ true

-- the search after it has visited vertex v
abbrev pub with_visited : Walk → ℕ → Walk
with_visited s v =
    record {
      visited = slice_set s.visited v true;
      followed = s.followed;
      path = s.path ++ (v ∷ []);
      finished = s.finished;
    }

-- the search after this many arcs of vertex v have been followed
abbrev pub with_followed : Walk → ℕ → ℕ → Walk
with_followed s v count =
    record { visited = s.visited; followed = slice_set s.followed v count; path = s.path; finished = s.finished }

-- the search after vertex v, the last of the path, has been finished
abbrev pub with_vertex_finished : Walk → ℕ → Walk
with_vertex_finished s v =
    record {
      visited = s.visited;
      followed = s.followed;
      path = take (length s.path - 1) s.path;
      finished = s.finished ++ (v ∷ []);
    }

-- the search goes on from s to t by passing the next vertices in vertex v's list that have been visited; `next` is the
-- first unvisited one, if there is one
pub record Follows (s : Walk) (heads : List ℕ) (v : ℕ) (next : Option ℕ) (t : Walk) : Type 0 where
  pub count : ℕ
  pub after : t ≡ with_followed s v count
  pub passed : (k : ℕ) → slice_index s.followed v ≤ k → k < count → k < length heads → IsVisited s (slice_index heads k)
  pub tells : MatchOption next (length heads ≤ count) (λ w. Contains heads w × (is_marked s.visited w ≡ false))

-- how many steps led here: one for each visited vertex, and one more for each finished one
abbrev pub steps_to : Walk → ℕ
steps_to s = length s.path + 2 * length s.finished

-- what holds between two steps: the visited vertices are those of the path and the finished ones, each once; each
-- vertex of the path leads to the later ones; the arcs of a finished vertex, and those that have been followed, lead to
-- visited ones
pub record IsWalkSoFar (lists : List (List ℕ)) (s : Walk) : Type 0 where
  pub marks : length s.visited ≡ length lists
  pub counts : length s.followed ≡ length lists
  pub path_below : All (λ v. v < length lists) s.path
  pub finished_below : All (λ v. v < length lists) s.finished
  pub path_once : ¬ Repeats s.path
  pub finished_once : ¬ Repeats s.finished
  pub apart : (v : ℕ) → Contains s.path v → ¬ Contains s.finished v
  pub visited : (v : ℕ) → v < length lists → IsVisited s v ↔ (Contains s.path v ⊎ Contains s.finished v)
  pub path_leads : (i j : ℕ) → i < j → j < length s.path
      → Leads (Next lists) (slice_index s.path i) (slice_index s.path j)
  pub followed : (v k : ℕ) → k < slice_index s.followed v → k < length (listed_at lists v)
      → IsVisited s (slice_index (listed_at lists v) k)
  pub arcs : (v w : ℕ) → Contains s.finished v → Next lists v w → IsVisited s w
  pub leads : LeadToLast (Next lists) s.finished

-- the search went on from s to t: what was visited is still visited
pub record WentOn (lists : List (List ℕ)) (s t : Walk) : Type 0 where
  pub walk : IsWalkSoFar lists t
  pub keeps : (v : ℕ) → IsVisited s v → IsVisited t v
