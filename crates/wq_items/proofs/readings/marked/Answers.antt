use Rattle.std.proofs.Common.{◌≡◌, ℕ, List, take, subst, arith}
use Rattle.std.proofs.lemmas.List.{take_all}
use Rattle.wq_items.proofs.ReadingLists.{AreMarked, AreMarked-all}
use Rattle.wq_items.proofs.readings.marked.Goals as goal

pub returns : goal.returns
returns g c =
    let kept : List ℕ = c.args.places.now in
    let all : take c.loop-place.place-index kept ≡ kept = take_all c.loop-place.place-index kept
    (omega (arith, c.loop-place-test.false)) in
    AreMarked-all c.args.count kept c.loop-place.marks.items
    (subst (λ (l : List ℕ). AreMarked c.args.count l c.loop-place.marks.items) all c.loop-place.invariant)
