use Rattle.std.proofs.Common.{◌≡◌, ◌≤◌, length, map, take, vec_len, vec_capacity}
use Rattle.wq_levels.proofs.progress.arc_counts.Given as goal

-- those of the vertices so far, and there is room for the others
abbrev pub invariant-loop-v : goal.invariant-loop-v
invariant-loop-v g l = (l.counts.items ≡ map length (take l.v l.graph))
    × (vec_len l.counts ≡ l.v) × (l.vertices ≤ vec_capacity l.counts)
