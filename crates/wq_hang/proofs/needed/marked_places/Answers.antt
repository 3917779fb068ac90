use Rattle.std.proofs.Common.{ℕ, List, [], ◌∷◌, ◌++◌, ap, ◌∙◌}
use Rattle.wq_hang.proofs.NeededPlaces.{marked-more, marked-same}
use Rattle.wq_hang.proofs.needed.marked_places.Goals as goal
use Rattle.wq_hang.proofs.needed.marked_places.Goals.{then-marks-place+in_ok-push, else-marks-place}

pub loop-place-preserved : goal.loop-place-preserved
loop-place-preserved g c =
    let marks = c.args.marks.now in
    let n : ℕ = c.loop-place.place in
    elim c.if-marks-place.branch [
      | then-marks-place+in_ok-push w ↦ rw w.places-is (
          w.in_ok-push.ensures.items
          ∙ ap (λ (l : List ℕ). l ++ (n ∷ [])) c.loop-place.invariant
          ∙ marked-more n marks w.if-marks-place.true
          )
      | else-marks-place w ↦
          rw w.places-is (c.loop-place.invariant ∙ marked-same n marks w.if-marks-place.false)
    ]
