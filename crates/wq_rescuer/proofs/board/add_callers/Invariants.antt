use Rattle.std.proofs.Common.{◌≡◌, ◌+◌, vec_len, vec_capacity}
use Rattle.std.specs.List.{All}
use Rattle.wq_rescuer.specs.Executing.{no_counts}
use Rattle.wq_rescuer.proofs.Making.{AreMade}
use Rattle.wq_rescuer.proofs.board.add_callers.Given as goal

-- each caller that is gone has a job, and took a seat
abbrev pub invariant-loop-caller : goal.invariant-loop-caller
invariant-loop-caller g l =
    (vec_len l.jobs + vec_len l.callers ≡ vec_len l.fn.jobs + vec_len l.fn.callers)
    × (vec_capacity l.jobs ≡ vec_capacity l.fn.jobs)
    × (vec_len l.seats + vec_len l.fn.callers ≡ vec_len l.fn.seats + vec_len l.callers)
    × (vec_capacity l.seats ≡ vec_capacity l.fn.seats)
    × All (λ seat. seat ≡ no_counts g.N.Naming.wiring) l.seats.items
    × (vec_capacity l.callers ≡ vec_capacity l.fn.callers)
    × AreMade (λ job. job.caller) l.fn.callers.items l.jobs.items l.callers.items

abbrev pub decreases-loop-caller : goal.decreases-loop-caller
decreases-loop-caller g l = vec_len l.callers
