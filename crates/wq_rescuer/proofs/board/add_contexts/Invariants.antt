use Rattle.std.proofs.Common.{◌≡◌, ◌+◌, ◌≤◌, vec_len, vec_capacity}
use Rattle.std.specs.List.{All}
use Rattle.wq_core.specs.Wiring.{items}
use Rattle.wq_rescuer.specs.Executing.{NeverRan, no_counts}
use Rattle.wq_rescuer.proofs.Making.{AreMade}
use Rattle.wq_rescuer.proofs.board.add_contexts.Given as goal

-- each body that is gone has a job, of the context that is gone with it, and took a seat
abbrev pub invariant-loop-body : goal.invariant-loop-body
invariant-loop-body g l =
    (vec_len l.jobs + vec_len l.bodies ≡ vec_len l.fn.jobs + vec_len l.fn.bodies)
    × (vec_capacity l.jobs ≡ vec_capacity l.fn.jobs)
    × (vec_len l.seats + vec_len l.fn.bodies ≡ vec_len l.fn.seats + vec_len l.bodies)
    × (vec_capacity l.seats ≡ vec_capacity l.fn.seats)
    × All (λ seat. seat ≡ no_counts g.N.Naming.wiring) l.seats.items
    × All (λ body. items g.N.Naming.wiring ≤ g.B.Body.width body) l.bodies.items
    × All (λ body. NeverRan (g.B.Body.runs body)) l.bodies.items
    × (vec_len l.bodies ≤ vec_len l.fn.bodies)
    × (vec_capacity l.bodies ≡ vec_capacity l.fn.bodies)
    × (vec_len l.contexts ≡ vec_len l.bodies)
    × AreMade (λ job. job.context) l.fn.contexts.items l.jobs.items l.contexts.items
    × AreMade (λ job. job.body) l.fn.bodies.items l.jobs.items l.bodies.items

abbrev pub decreases-loop-body : goal.decreases-loop-body
decreases-loop-body g l = vec_len l.bodies
