use Rattle.std.proofs.Common.{ℕ, ◌≢◌, ◌+◌, take}
use Rattle.std.specs.Prelude.{Contains, slice_index}
use Rattle.wq_hang.proofs.least_for.Field.has_one_before.Given as goal

-- none of the items so far
abbrev pub invariant-loop-other : goal.invariant-loop-other
invariant-loop-other g l =
    (i : ℕ) → Contains (take l.other-index l.other-items) i → i ≢ l.item
    → slice_index l.self-inside.ways.now.costs i ≢ l.cost + 1
