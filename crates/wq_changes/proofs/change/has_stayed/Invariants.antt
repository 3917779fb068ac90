use Rattle.std.proofs.Common.{◌≡◌, false}
use Rattle.std.specs.List.{list_any, range_with_len}
use Rattle.wq_changes.specs.Changes.{stays_on}
use Rattle.wq_changes.proofs.change.has_stayed.Given as goal

-- none so far
abbrev pub invariant-loop-number : goal.invariant-loop-number
invariant-loop-number g l = list_any (stays_on l.old l.new l.lane) (range_with_len 0 l.number) ≡ false
