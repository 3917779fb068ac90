use Rattle.std.proofs.Common.{◌≡◌, ◌≤◌, length, map, take, vec_len, vec_capacity}
use Rattle.wq_items.specs.declared.flush.Flush.{Flush}
use Rattle.wq_items.proofs.waits.items_flushing.Given as goal

-- those of the flushes so far, and there is room for the others
abbrev pub invariant-loop-flush : goal.invariant-loop-flush
invariant-loop-flush g l = (l.items.items ≡ map (λ (f : Flush). f.item) (take l.flush-index l.flushes))
    × (vec_len l.items ≡ l.flush-index) × (length l.flushes ≤ vec_capacity l.items)
