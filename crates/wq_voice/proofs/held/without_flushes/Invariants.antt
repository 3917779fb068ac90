use Rattle.std.proofs.Common.{◌≡◌}
use Rattle.std.specs.Prelude.{◌&&◌, filter, not}
use Rattle.std.specs.List.{range_with_len}
use Rattle.wq_items.specs.Readings.{is_among}
use Rattle.wq_voice.specs.Held.{has_flush_on}
use Rattle.wq_voice.proofs.held.without_flushes.Given as goal

-- those of the items so far
abbrev pub invariant-loop-number : goal.invariant-loop-number
invariant-loop-number g l = l.items.items
    ≡ filter (λ i. is_among l.fn.named i && not (has_flush_on l.assigned.declared l.assigned.workqueues i))
    (range_with_len 0 l.number)
