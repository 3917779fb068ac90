use Rattle.std.proofs.Common.{◌≡◌}
use Rattle.std.specs.Prelude.{filter}
use Rattle.std.specs.List.{range_with_len}
use Rattle.wq_voice.specs.Components.{begins_on}
use Rattle.wq_voice.proofs.rounds.lanes_of.Given as goal

-- the marked ones of the workqueues so far
abbrev pub invariant-loop-number : goal.invariant-loop-number
invariant-loop-number g l = l.lanes.items ≡ filter (begins_on l.assigned.declared l.assigned.workqueues l.arcs)
    (range_with_len 0 l.number)
