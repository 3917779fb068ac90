use Rattle.std.proofs.Common.{◌≡◌, ◌+◌, ◌*◌, ◌≤◌, map, vec_len, vec_capacity}
use Rattle.std.specs.List.{sum_by}
use Rattle.wq_rescuer.specs.Contexts.{contexts_of}
use Rattle.wq_rescuer.specs.Serving.{finished_by, faults_by}
use Rattle.wq_rescuer.proofs.Handovers.{AreHanded, AreLeft, AreServedTo}
use Rattle.wq_rescuer.proofs.gathering.gather_contexts.Given as goal

-- what is gone was added to each list, and what it says is true; what is left is in order
abbrev pub invariant-loop-end : goal.invariant-loop-end
invariant-loop-end g l =
    (vec_len l.seats + vec_len l.ends ≡ vec_len l.fn.ends)
    × (vec_len l.bodies + vec_len l.ends ≡ vec_len l.fn.ends)
    × (vec_len l.rescued + vec_len l.ends ≡ vec_len l.fn.ends)
    × (vec_capacity l.seats ≡ vec_capacity l.fn.seats)
    × (vec_capacity l.bodies ≡ vec_capacity l.fn.bodies)
    × (vec_capacity l.rescued ≡ vec_capacity l.fn.rescued)
    × AreServedTo g.N.Naming.wiring (contexts_of g.N.Naming.wiring) (vec_len l.seats) l.seats.items
    (map g.B.Body.runs l.bodies.items) l.rescued.items
    × (l.finished ≡ sum_by finished_by l.rescued.items)
    × (l.faults ≡ sum_by faults_by l.rescued.items)
    × (l.finished ≤ vec_len l.seats * 4294967295)
    × (l.faults ≤ vec_len l.seats * 4294967295)
    × AreLeft (contexts_of g.N.Naming.wiring) (vec_len l.seats) (map (λ end. end.context) l.ends.items)
    × AreHanded (λ end. end.seat) l.fn.seats.items l.fn.ends.items l.seats.items l.ends.items
    × AreHanded (λ end. end.rescued) l.fn.rescued.items l.fn.ends.items l.rescued.items l.ends.items

abbrev pub decreases-loop-end : goal.decreases-loop-end
decreases-loop-end g l = vec_len l.ends
