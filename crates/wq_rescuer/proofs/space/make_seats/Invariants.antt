use Rattle.std.proofs.Common.{◌≡◌, ◌*◌, replicate, vec_len, vec_capacity}
use Rattle.std.specs.List.{All}
use Rattle.wq_counts.specs.Counting.{counts_each}
use Rattle.wq_held.specs.Locked.{slots}
use Rattle.wq_rescuer.proofs.space.make_seats.Given as goal

-- this many seats were made, all without counts
abbrev pub invariant-loop : goal.invariant-loop
invariant-loop g l =
    (vec_len l.seats ≡ l.counter) × (vec_capacity l.seats ≡ vec_capacity l.fn.seats)
    × All (λ seat. seat ≡ replicate (counts_each * slots g.N.Naming.wiring) 0) l.seats.items
