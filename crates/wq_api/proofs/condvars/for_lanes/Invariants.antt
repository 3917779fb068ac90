use Rattle.std.proofs.Common.{◌≡◌, ◌≤◌, vec_len, length}
use Rattle.wq_api.specs.Locking.{AreOfLanes}
use Rattle.wq_api.proofs.condvars.for_lanes.Given as goal

-- one for each workqueue so far, each that of its own, and there is room for the others
abbrev pub invariant-loop-q : goal.invariant-loop-q
invariant-loop-q g l =
    (vec_len l.lanes ≡ l.q) × (l.count ≤ l.lanes.cap) × (length l.lanes.items ≡ l.q)
    × AreOfLanes (λ x. x.contexts.of) (λ x. x.waiters.of) l.lanes.items
