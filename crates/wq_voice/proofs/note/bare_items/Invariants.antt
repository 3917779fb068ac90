use Rattle.std.proofs.Common.{◌≡◌}
use Rattle.std.specs.Prelude.{filter}
use Rattle.std.specs.List.{range_with_len}
use Rattle.wq_deadlock.specs.Judging.{is_on_bare}
use Rattle.wq_voice.proofs.note.bare_items.Given as goal

-- the bare ones of the items so far
abbrev pub invariant-loop-number : goal.invariant-loop-number
invariant-loop-number g l = l.items.items
    ≡ filter (is_on_bare l.assigned.workqueues l.assigned.declared.partition.group_of) (range_with_len 0 l.number)
