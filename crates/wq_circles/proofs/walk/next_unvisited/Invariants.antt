use Rattle.std.proofs.Common.{◌≡◌, ℕ, ◌<◌, ◌≤◌, length, slice_index, true}
use Rattle.wq_circles.specs.Searching.{is_marked}
use Rattle.wq_circles.proofs.walk.next_unvisited.Given as goal

abbrev pub invariant-loop-place : goal.invariant-loop-place
invariant-loop-place l = (k : ℕ) → l.fn.from ≤ k → k < l.place → k < length l.heads → is_marked l.visited (slice_index l.heads k) ≡ true
