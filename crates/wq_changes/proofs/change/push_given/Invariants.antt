use Rattle.std.proofs.Common.{◌≡◌, ◌++◌, map}
use Rattle.std.specs.Prelude.{filter}
use Rattle.std.specs.List.{range_with_len}
use Rattle.wq_changes.specs.Changes.{is_given}
use Rattle.wq_changes.specs.declared.change.Change.TheVariants as change
use Rattle.wq_changes.proofs.change.push_given.Given as goal

-- the lanes so far that are given a rescuer
abbrev pub invariant-loop-number : goal.invariant-loop-number
invariant-loop-number g l = l.changes.items ≡ l.fn.changes.items ++ map (λ q. change.Given q) (filter (is_given l.groups l.old l.new) (range_with_len 0 l.number))
