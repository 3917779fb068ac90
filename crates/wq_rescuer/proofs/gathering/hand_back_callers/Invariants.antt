use Rattle.std.proofs.Common.{◌≡◌, ◌+◌, vec_len, vec_capacity}
use Rattle.wq_rescuer.proofs.gathering.hand_back_callers.Given as goal

-- what is gone of the ends was added to each list
abbrev pub invariant-loop-end : goal.invariant-loop-end
invariant-loop-end g l =
    (vec_len l.seats + vec_len l.ends ≡ vec_len l.fn.seats + vec_len l.fn.calls.ends)
    × (vec_len l.callers + vec_len l.ends ≡ vec_len l.fn.callers + vec_len l.fn.calls.ends)
    × (vec_capacity l.seats ≡ vec_capacity l.fn.seats)
    × (vec_capacity l.callers ≡ vec_capacity l.fn.callers)

abbrev pub decreases-loop-end : goal.decreases-loop-end
decreases-loop-end g l = vec_len l.ends

-- all ends were added, and what is gone of the jobs
abbrev pub invariant-loop-job : goal.invariant-loop-job
invariant-loop-job g l =
    (vec_len l.seats + vec_len l.waiting ≡ vec_len l.fn.seats + (vec_len l.fn.calls.waiting + vec_len l.fn.calls.ends))
    × (vec_len l.callers + vec_len l.waiting
    ≡ vec_len l.fn.callers + (vec_len l.fn.calls.waiting + vec_len l.fn.calls.ends))
    × (vec_capacity l.seats ≡ vec_capacity l.fn.seats)
    × (vec_capacity l.callers ≡ vec_capacity l.fn.callers)

abbrev pub decreases-loop-job : goal.decreases-loop-job
decreases-loop-job g l = vec_len l.waiting
