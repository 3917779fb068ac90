use Rattle.std.proofs.Common.{◌≡◌, vec_len}
use Rattle.std.specs.Prelude.{slice_index}
use Rattle.std.specs.List.{All}
use Rattle.wq_rescuer.specs.Executing.{NeverRan}
use Rattle.example_rdisk.proofs.rdisk.make_bodies.Given as goal

-- each body so far can count all items, and has run nothing
abbrev pub invariant-loop : goal.invariant-loop
invariant-loop l =
    All (λ b. vec_len b.runs ≡ l.fn.items) l.bodies.items
    × All (λ b. NeverRan (slice_index b.runs.items)) l.bodies.items
