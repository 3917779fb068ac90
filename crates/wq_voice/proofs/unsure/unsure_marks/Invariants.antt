use Rattle.std.proofs.Common.{take}
use Rattle.wq_items.specs.Readings.{unsure_places}
use Rattle.wq_items.specs.Table.{flush_count}
use Rattle.wq_items.proofs.ReadingLists.{AreMarked}
use Rattle.wq_voice.proofs.unsure.unsure_marks.Given as goal

-- the flushes of the items so far are marked
abbrev pub invariant-loop-number : goal.invariant-loop-number
invariant-loop-number g l =
    AreMarked (flush_count l.table.waits) (unsure_places (take l.number l.table.waits)) l.marks.items
