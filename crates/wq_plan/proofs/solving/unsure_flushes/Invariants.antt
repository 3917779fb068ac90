use Rattle.std.proofs.Common.{◌++◌, take}
use Rattle.wq_items.specs.Table.{flush_count}
use Rattle.wq_items.specs.Readings.{unsure_places}
use Rattle.wq_items.proofs.ReadingLists.{AreMarked}
use Rattle.wq_plan.proofs.UnsureFlushes.{unsure_of}
use Rattle.wq_plan.proofs.solving.unsure_flushes.Given as goal

abbrev pub invariant-loop-number : goal.invariant-loop-number
invariant-loop-number g l = AreMarked (flush_count l.table.waits) (unsure_places (take l.number l.table.waits))
    l.marks.items

abbrev pub invariant-loop-target : goal.invariant-loop-target
invariant-loop-target g l =
    AreMarked (flush_count l.table.waits) (unsure_places (take l.number l.table.waits) ++ unsure_of
    (take l.target-index l.target-items)) l.marks.items
