use Rattle.std.proofs.Common.{◌≡◌, ℕ, ◌-◌, ◌<◌, ◌≤◌, false, leb, get_or, length}
use Rattle.wq_text.proofs.run.greater_in_front.Given as goal

-- all bytes so far are greater than `#`
abbrev pub invariant-loop-len : goal.invariant-loop-len
invariant-loop-len l = (l.len ≤ length l.text) × ((k : ℕ) → k < l.len → leb (get_or l.text k 0) 35 ≡ false)

abbrev pub decreases-loop-len : goal.decreases-loop-len
decreases-loop-len l = length l.text - l.len
