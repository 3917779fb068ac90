use Rattle.std.proofs.Common.{◌≡◌, ◌≤◌, map}
use Rattle.std.specs.List.{range_with_len}
use Rattle.wq_items.specs.Readings.{places_before}
use Rattle.wq_items.proofs.readings.new_places.Given as goal

abbrev pub invariant-loop-mark : goal.invariant-loop-mark
invariant-loop-mark g l = (l.places.items ≡ map (places_before l.kept) (range_with_len 0 l.mark-index)) ×
    (l.before ≡ places_before l.kept l.mark-index) ×
    (l.before ≤ l.mark-index)
