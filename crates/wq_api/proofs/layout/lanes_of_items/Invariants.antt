use Rattle.std.proofs.Common.{◌≡◌, ◌≤◌, take, vec_len}
use Rattle.wq_api.proofs.layout.lanes_of_items.Given as goal

-- those of the items so far, and there is room for the others
abbrev pub invariant-loop-i : goal.invariant-loop-i
invariant-loop-i g l =
    (l.lanes.items ≡ take l.i g.N.Naming.wiring.lane_of_item) × (vec_len l.lanes ≡ l.i) × (l.count ≤ l.lanes.cap)
