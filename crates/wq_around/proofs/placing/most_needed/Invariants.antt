use Rattle.std.proofs.Common.{◌<◌, ◌≤◌, ℕ, slice_index}
use Rattle.wq_around.specs.Down.{IsTop}
use Rattle.wq_around.proofs.placing.most_needed.Given as goal

abbrev pub invariant-loop-lane : goal.invariant-loop-lane
invariant-loop-lane l =
    ((q : ℕ) → l.new ≤ q → q < l.lane → slice_index l.heights q ≤ l.most)
    × (0 < l.most → (q : ℕ) × IsTop l.new l.heights l.most q)
