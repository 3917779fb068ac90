use Rattle.std.proofs.Common.{◌≡◌, ◌+◌, ◌≤◌, take, vec_len, vec_capacity}
use Rattle.wq_rescuer.proofs.Handovers.{AreHanded}
use Rattle.wq_rescuer.proofs.gathering.gather_callers.Given as goal

-- what is gone was added to each list
abbrev pub invariant-loop-end : goal.invariant-loop-end
invariant-loop-end g l =
    (vec_len l.seats + vec_len l.ends ≡ vec_len l.fn.seats + vec_len l.fn.ends)
    × (vec_len l.callers + vec_len l.ends ≡ vec_len l.fn.callers + vec_len l.fn.ends)
    × (vec_len l.results + vec_len l.ends ≡ vec_len l.fn.results + vec_len l.fn.ends)
    × (vec_capacity l.seats ≡ vec_capacity l.fn.seats)
    × (vec_capacity l.callers ≡ vec_capacity l.fn.callers)
    × (vec_capacity l.results ≡ vec_capacity l.fn.results)
    × (vec_len l.fn.seats ≤ vec_len l.seats)
    × (take (vec_len l.fn.seats) l.seats.items ≡ l.fn.seats.items)
    × AreHanded (λ end. end.seat) l.fn.seats.items l.fn.ends.items l.seats.items l.ends.items
    × AreHanded (λ end. end.caller) l.fn.callers.items l.fn.ends.items l.callers.items l.ends.items
    × AreHanded (λ end. end.result) l.fn.results.items l.fn.ends.items l.results.items l.ends.items

abbrev pub decreases-loop-end : goal.decreases-loop-end
decreases-loop-end g l = vec_len l.ends
