use Rattle.std.proofs.Common.{◌≡◌}
use Rattle.wq_hang.proofs.NeededPlaces.{marked_below}
use Rattle.wq_hang.proofs.needed.marked_places.Given as goal

abbrev pub invariant-loop-place : goal.invariant-loop-place
invariant-loop-place g l = l.places.items ≡ marked_below l.place l.marks
