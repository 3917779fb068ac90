use Rattle.std.proofs.Common.{ℕ, ◌≢◌, take}
use Rattle.std.specs.Prelude.{Contains}
use Rattle.wq_core.specs.Wiring.{lane_of}
use Rattle.wq_hang.proofs.least_for.one_held_by.Given as goal

-- none of the items so far waits first
abbrev pub invariant-loop-item : goal.invariant-loop-item
invariant-loop-item g l = (i : ℕ) → Contains (take l.item-index l.named) i → i ≢ l.first

-- none of the items so far is on the lane
abbrev pub invariant-loop-item-2 : goal.invariant-loop-item-2
invariant-loop-item-2 g l =
    (i : ℕ) → Contains (take l.item-index l.named) i → lane_of l.waits i ≢ l.lane
