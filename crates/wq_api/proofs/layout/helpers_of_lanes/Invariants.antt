use Rattle.std.proofs.Common.{◌≡◌, ◌≤◌, vec_len, map}
use Rattle.std.specs.List.{range_with_len}
use Rattle.wq_history.proofs.Words.{helpers_of}
use Rattle.wq_api.proofs.layout.helpers_of_lanes.Given as goal

-- those of the lanes so far, and there is room for the others
abbrev pub invariant-loop-q : goal.invariant-loop-q
invariant-loop-q g l =
    (l.helpers.items ≡ map (helpers_of g.N.Naming.wiring) (range_with_len 0 l.q)) × (vec_len l.helpers ≡ l.q)
    × (l.count ≤ l.helpers.cap)
