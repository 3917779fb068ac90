use Rattle.std.proofs.Common.{◌≡◌, ◌+◌, vec_len, vec_capacity}
use Rattle.wq_rescuer.proofs.Doing.{AreTaken}
use Rattle.wq_rescuer.proofs.threads.start_callers.Given as goal

-- those that don't wait any more have their threads
abbrev pub invariant-loop-job : goal.invariant-loop-job
invariant-loop-job g l =
    AreTaken (λ job thread. thread.promise.0.value ≡ job.caller)
    l.fn.waiting.items l.waiting.items l.threads.items
    × (vec_len l.waiting + vec_len l.threads ≡ vec_len l.fn.waiting)
    × (vec_capacity l.threads ≡ vec_capacity l.fn.threads)

abbrev pub decreases-loop-job : goal.decreases-loop-job
decreases-loop-job g l = vec_len l.waiting
