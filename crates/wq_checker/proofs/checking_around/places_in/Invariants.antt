use Rattle.std.proofs.Common.{◌≡◌, length}
use Rattle.wq_checker.proofs.PlacesInOrder.{ArePlacesBelow}
use Rattle.wq_checker.proofs.checking_around.places_in.Given as goal

abbrev pub invariant-loop-place : goal.invariant-loop-place
invariant-loop-place g l = record {
  long : length l.places.items ≡ l.lanes;
  placed : ArePlacesBelow l.order l.lanes l.place l.places.items;
}
