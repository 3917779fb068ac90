use Rattle.std.proofs.Common.{◌≡◌, ◌≤◌, length, map, take, vec_len, vec_capacity}
use Rattle.wq_levels.proofs.incoming.heads.Given as goal

-- those of the arcs so far, and there is room for the others
abbrev pub invariant-loop-arc : goal.invariant-loop-arc
invariant-loop-arc g l = (l.heads.items ≡ map (λ a. a.head) (take l.arc-index l.arcs))
    × (vec_len l.heads ≡ l.arc-index) × (length l.arcs ≤ vec_capacity l.heads)
