use Rattle.std.proofs.Common.{◌≡◌, ◌+◌, vec_len, vec_capacity}
use Rattle.wq_rescuer.proofs.Doing.{AreTaken}
use Rattle.wq_rescuer.proofs.threads.join_all.Given as goal

-- the threads that aren't left ended
abbrev pub invariant-loop-thread : goal.invariant-loop-thread
invariant-loop-thread g l =
    AreTaken (λ thread end. g.P.Promise.kept_by thread.promise end) l.fn.threads.items l.threads.items l.ends.items
    × (vec_len l.threads + vec_len l.ends ≡ vec_len l.fn.threads)
    × (vec_capacity l.ends ≡ vec_capacity l.fn.ends) × (vec_capacity l.threads ≡ vec_capacity l.fn.threads)

abbrev pub decreases-loop-thread : goal.decreases-loop-thread
decreases-loop-thread g l = vec_len l.threads
