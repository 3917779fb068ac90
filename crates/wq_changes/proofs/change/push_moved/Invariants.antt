use Rattle.std.proofs.Common.{◌≡◌, ◌++◌, map}
use Rattle.std.specs.Prelude.{filter}
use Rattle.std.specs.List.{range_with_len}
use Rattle.wq_changes.specs.Changes.{has_moved}
use Rattle.wq_changes.specs.declared.change.Change.TheVariants as change
use Rattle.wq_changes.proofs.change.push_moved.Given as goal

-- the groups so far that are on another lane
abbrev pub invariant-loop-number : goal.invariant-loop-number
invariant-loop-number g l = l.changes.items ≡ l.fn.changes.items ++ map (λ h. change.Moved h) (filter (has_moved l.old l.new) (range_with_len 0 l.number))
