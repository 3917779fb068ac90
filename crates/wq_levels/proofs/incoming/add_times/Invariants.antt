use Rattle.std.proofs.Common.{◌≡◌, ◌+◌, ◌≤◌, ◌++◌, replicate, vec_len, vec_capacity}
use Rattle.wq_levels.proofs.incoming.add_times.Given as goal

-- as many as the loop has gone round, and there is room for the others
abbrev pub invariant-loop : goal.invariant-loop
invariant-loop g l = (l.list.items ≡ l.initial.list.items ++ replicate l.counter l.vertex)
    × (vec_len l.list ≡ vec_len l.initial.list + l.counter) × (vec_len l.initial.list + l.times ≤ vec_capacity l.list)
