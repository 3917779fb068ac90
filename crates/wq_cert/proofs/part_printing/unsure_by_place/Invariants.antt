use Rattle.std.proofs.Common.{◌++◌, take}
use Rattle.std.specs.List.{range_with_len}
use Rattle.wq_items.specs.Table.{flush_count}
use Rattle.wq_cert.proofs.PrintedParts.{AreAt, owned, own}
use Rattle.wq_cert.proofs.part_printing.unsure_by_place.Given as goal

-- the flushes of the items before, and those of this item so far
abbrev pub invariant-loop-target : goal.invariant-loop-target
invariant-loop-target g l =
    AreAt (flush_count l.table.waits)
    (owned l.table.waits (range_with_len 0 l.number) ++ own l.number (take l.target-index l.target-items))
    l.flushes.items

abbrev pub invariant-loop-number : goal.invariant-loop-number
invariant-loop-number g l =
    AreAt (flush_count l.table.waits) (owned l.table.waits (range_with_len 0 l.number)) l.flushes.items
