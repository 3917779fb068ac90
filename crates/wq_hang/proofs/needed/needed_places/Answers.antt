use Rattle.std.proofs.Common.{◌≡◌, ◌<◌, ℕ, Bool, false, List, length, get_or, sym, ap, ◌∙◌, arith}
use Rattle.wq_items.specs.Readings.{is_among}
use Rattle.wq_hang.specs.Walk.{needs}
use Rattle.wq_hang.proofs.Taken.{IfOk-weaker}
use Rattle.wq_hang.proofs.Fewest.{unsure_at}
use Rattle.wq_hang.proofs.NeededPlaces.{marked_below, needs-marked, needs-none}
use Rattle.wq_hang.proofs.needed.needed_places.Goals as goal

pub returns-then-not-some_unsure : goal.returns-then-not-some_unsure
returns-then-not-some_unsure g c =
    c.new.ensures.items ∙ sym (needs-none c.args.hops.now (sym c.some_unsure.ensures ∙ c.if-not-some_unsure.true))

pub returns : goal.returns
returns g c =
    let hops = c.args.hops.now in
    let marks = c.deref.result.now in
    let same : marks ≡ c.in_ok-marks.marks.items = c.deref.ensures.value in
    let size : length marks ≡ 16384 = ap (λ (l : List Bool). length l) same ∙ c.in_ok-marks.ensures.len in
    let each : (p : ℕ) → p < length marks → get_or marks p false ≡ is_among (unsure_at hops) p =
    λ p low. ap (λ (l : List Bool). get_or l p false) same
    ∙ c.in_ok-marks.ensures.marked p (omega (arith, low, size)) in
    let made : marked_below (length marks) marks ≡ needs hops = needs-marked hops marks size each in
    IfOk-weaker c.marked_places.result (λ places. places.items ≡ marked_below (length marks) marks)
    (λ places. places.items ≡ needs hops) (λ places is. is ∙ made) c.marked_places.ensures
