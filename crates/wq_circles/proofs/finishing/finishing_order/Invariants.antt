use Rattle.std.proofs.Common.{◌≡◌, ℕ, ◌<◌, [], map}
use Rattle.wq_circles.specs.Finishing.{IsVisited, IsWalkSoFar}
use Rattle.wq_circles.proofs.finishing.finishing_order.Given as goal

abbrev pub invariant-loop-root : goal.invariant-loop-root
invariant-loop-root g l = record {
  is_walk : IsWalkSoFar (map (λ list. list.items) l.lists) l.walk;
  at_rest : l.walk.path ≡ [];
  visited : (v : ℕ) → v < l.root → IsVisited l.walk v;
}
