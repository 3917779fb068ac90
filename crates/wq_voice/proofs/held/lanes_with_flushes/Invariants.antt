use Rattle.std.proofs.Common.{map}
use Rattle.std.proofs.Common.{length}
use Rattle.std.specs.Prelude.{◌==◌, filter, not}
use Rattle.std.specs.List.{range_with_len}
use Rattle.wq_items.specs.Table.{targets_of}
use Rattle.wq_items.proofs.ReadingLists.{AreMarked}
use Rattle.wq_diagnosis.specs.Words.{workqueue_of}
use Rattle.wq_voice.proofs.held.lanes_with_flushes.Given as goal

-- the workqueues of the items so far that declare a flush are marked
abbrev pub invariant-loop-number : goal.invariant-loop-number
invariant-loop-number g l =
    AreMarked l.assigned.workqueues.assignment.lanes
    (map (workqueue_of l.assigned.declared l.assigned.workqueues)
    (filter (λ i. not (length (targets_of l.assigned.declared.table.waits i) == 0)) (range_with_len 0 l.number)))
    l.marks.items
