use Rattle.std.proofs.Common.{◌≡◌, ◌++◌, map, take}
use Rattle.std.specs.Prelude.{filter}
use Rattle.wq_items.specs.Readings.{is_marked, moved}
use Rattle.wq_items.proofs.readings.push_kept.Given as goal

abbrev pub invariant-loop-target : goal.invariant-loop-target
invariant-loop-target g l = (l.pieces.pieces ≡ l.fn.pieces.pieces) ×
    (l.pieces.next ≡ l.fn.pieces.next ++ map (moved l.places)
    (filter (is_marked l.marks) (take l.target-index l.targets)))
