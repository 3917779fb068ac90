use Rattle.std.proofs.Common.{◌≡◌, ℕ, ◌+◌, ◌<◌, ◌≤◌, slice_index}
use Rattle.wq_counts.proofs.counts.add_each.Given as goal

abbrev pub invariant-loop-i : goal.invariant-loop-i
invariant-loop-i l =
    ((p : ℕ) → p < l.i → slice_index l.counts p ≡ slice_index l.initial.counts p + slice_index l.more p)
    × ((p : ℕ) → l.i ≤ p → slice_index l.counts p ≡ slice_index l.initial.counts p)
