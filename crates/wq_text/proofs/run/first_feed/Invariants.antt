use Rattle.std.proofs.Common.{◌≡◌, ℕ, ◌-◌, ◌<◌, ◌≤◌, false, eqb, get_or, length}
use Rattle.wq_text.proofs.run.first_feed.Given as goal

-- no byte so far is a line feed
abbrev pub invariant-loop-at : goal.invariant-loop-at
invariant-loop-at l = (l.at ≤ length l.text) × ((k : ℕ) → k < l.at → eqb (get_or l.text k 0) 10 ≡ false)

abbrev pub decreases-loop-at : goal.decreases-loop-at
decreases-loop-at l = length l.text - l.at

abbrev pub invariant-loop-place : goal.invariant-loop-place
invariant-loop-place l = (k : ℕ) → k < l.place → eqb (get_or l.text k 0) 10 ≡ false
