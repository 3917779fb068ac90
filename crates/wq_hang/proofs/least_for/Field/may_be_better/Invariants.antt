use Rattle.std.proofs.Common.{ℕ, ◌+◌, ◌≤◌, take}
use Rattle.std.specs.Prelude.{Contains, slice_index}
use Rattle.wq_hang.proofs.least_for.Field.may_be_better.Given as goal

-- a round from the items so far isn't better
abbrev pub invariant-loop-item : goal.invariant-loop-item
invariant-loop-item g l =
    (i : ℕ) → Contains (take l.item-index l.few) i → l.fn.best ≤ slice_index l.self-inside.ways.now.costs i + l.fn.least
