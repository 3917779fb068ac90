use Rattle.std.proofs.Common.{arith}
use Rattle.wq_checker.proofs.PlacesInOrder.{places-all}
use Rattle.wq_checker.proofs.checking_around.places_in.Goals as goal

pub returns : goal.returns
returns g c =
    places-all c.args.order.now c.args.lanes c.loop-place.place c.loop-place.places.items
    (omega (arith, c.loop-place-test.false, c.loop-place.auto.place-end)) c.loop-place.invariant.long
    c.loop-place.invariant.placed
