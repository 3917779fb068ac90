-- Numbers of the vertices of a graph, while they are given.
use Rattle.std.specs.Prelude.{◌≡◌, ℕ, ◌<◌, List, length}
use Rattle.std.specs.List.{All}

-- the number of each vertex; how many arcs lead to each from vertices that have no number; and vertices to which none
-- does
pub record Given : Type 0 where
  pub numbers : List ℕ
  pub next : ℕ
  pub left : List ℕ
  pub ready : List ℕ

-- what holds at each time, of n vertices
pub record AreGiven (n : ℕ) (s : Given) : Type 0 where
  pub numbers : length s.numbers ≡ n
  pub left : length s.left ≡ n
  pub ready : All (λ v. v < n) s.ready
