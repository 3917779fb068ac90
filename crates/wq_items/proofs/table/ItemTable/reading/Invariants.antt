use Rattle.std.proofs.Common.{◌≡◌, [], map}
use Rattle.std.specs.List.{range_with_len}
use Rattle.wq_items.specs.Table.{targets_of}
use Rattle.wq_items.specs.Readings.{compact}
use Rattle.wq_items.proofs.table.ItemTable.reading.Given as goal

abbrev pub invariant-loop-i : goal.invariant-loop-i
invariant-loop-i g l = (l.pieces.pieces ≡ map (targets_of (compact l.kept l.self.waits)) (range_with_len 0 l.i)) ×
    (l.pieces.next ≡ [])
