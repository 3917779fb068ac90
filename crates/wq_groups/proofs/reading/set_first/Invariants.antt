use Rattle.std.proofs.Common.{◌≡◌, ◌<◌, ℕ, cond, eqb, length, take}
use Rattle.std.specs.Prelude.{slice_index}
use Rattle.std.specs.List.{list_any}
use Rattle.wq_groups.proofs.reading.set_first.Given as goal

-- the items so far have this first, and no others' was changed
abbrev pub invariant-loop-item : goal.invariant-loop-item
invariant-loop-item l =
    (length l.first ≡ length l.fn.first)
    × ((i : ℕ) → i < length l.fn.first → slice_index l.first i ≡ cond (list_any (λ (item : ℕ). eqb i item) (take l.item-index l.items)) l.lowest (slice_index l.fn.first i))
