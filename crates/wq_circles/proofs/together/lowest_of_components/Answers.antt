use Rattle.std.proofs.Common.{◌≡◌, ◌+◌, ◌-◌, ◌<◌, ℕ, true, false, List, length, drop, map, slice_index, sym, subst, ap, ◌∙◌, arith}
use Rattle.std.proofs.lemmas.List.{length-map, with_items_is}
use Rattle.wq_circles.specs.Leading.{AreLowest}
use Rattle.wq_circles.specs.Lists.{NextBack}
use Rattle.wq_circles.specs.Searching.{AreSettled, Search, is_marked}
use Rattle.wq_circles.specs.Finishing.{IsFinishing}
use Rattle.wq_circles.proofs.Searched.{AreFound-new}
use Rattle.wq_circles.proofs.Turned.{listed_at-below}
use Rattle.wq_circles.proofs.Completed.{AreFoundFrom, AreFoundFrom-more, AreFoundFrom-skipped, AreLowest-done}
use Rattle.wq_circles.proofs.together.lowest_of_components.Goals as goal

pub loop-place-preserved-then-not-has : goal.loop-place-preserved-then-not-has
loop-place-preserved-then-not-has g c =
    let tails : List (List ℕ) = map (λ list. list.items) c.args.tails.now in
    let finished : List ℕ = c.args.finished.now in
    let s : Search = c.loop-place.found in
    let t : Search = c.spread.new.found in
    let before = c.loop-place.invariant in
    let j : ℕ = c.loop-place.place - 1 in
    let next : j + 1 ≡ c.loop-place.place = omega arith in
    let inside : j < length finished = omega arith in
    let fails : is_marked s.marks (slice_index finished j) ≡ false = sym c.if-not-has.ensures in
    let long : length c.args.tails.now ≡ length tails = sym (length-map c.args.tails.now (λ list. list.items)) in
    let ordered : IsFinishing (NextBack tails) (length tails) finished = subst (λ (n : ℕ). IsFinishing (NextBack tails) n finished) long c.requires.finished in
    let new : List ℕ = c.settle.new.lowest in
    let settled : AreSettled (drop (length s.order) t.order) c.loop-place.lowest.items new =
    subst (λ (vertices : List ℕ). AreSettled vertices c.loop-place.lowest.items new) (c.since.ensures ∙ ap (λ (n : ℕ). drop n t.order) c.count-before.ensures)
    (subst (λ (old : List ℕ). AreSettled c.since.result.now old new) c.as_mut_slice.ensures.value c.settle.ensures) in
    let more : AreFoundFrom tails finished j t new =
    AreFoundFrom-more tails finished c.loop-place.place j s t c.loop-place.lowest.items new before next inside ordered (listed_at-below c.args.tails.now c.requires.within)
    (AreFound-new s (slice_index finished j) before.found fails) c.in_ok-spread.ensures settled in
    subst (AreFoundFrom tails finished j t) (sym (with_items_is c.loop-place.lowest new (omega (arith, c.settle.ensures.one_each, c.as_mut_slice.ensures.len)))) more

pub loop-place-preserved : goal.loop-place-preserved
loop-place-preserved g c =
    let tails : List (List ℕ) = map (λ list. list.items) c.args.tails.now in
    let finished : List ℕ = c.args.finished.now in
    let s : Search = c.loop-place.found in
    let before = c.loop-place.invariant in
    let j : ℕ = c.loop-place.place - 1 in
    let next : j + 1 ≡ c.loop-place.place = omega arith in
    let inside : j < length finished = omega arith in
    let holds : is_marked s.marks (slice_index finished j) ≡ true = sym c.if-not-has.ensures in
    let below : slice_index finished j < length c.args.tails.now = c.requires.finished.below j 0 inside in
    let marks = before.marks in
    let in_marks : slice_index finished j < length s.marks = omega (arith, below, marks, length-map c.args.tails.now (λ list. list.items)) in
    AreFoundFrom-skipped tails finished c.loop-place.place j s c.loop-place.lowest.items before next
    ((before.found.marked (slice_index finished j) in_marks).0 holds)

pub returns : goal.returns
returns g c =
    let tails : List (List ℕ) = map (λ list. list.items) c.args.tails.now in
    let finished : List ℕ = c.args.finished.now in
    let long : length tails ≡ length c.args.tails.now = length-map c.args.tails.now (λ list. list.items) in
    let first : c.loop-place.place ≡ 0 = omega (arith, c.loop-place-test.false) in
    subst (λ (n : ℕ). AreLowest (NextBack tails) n c.loop-place.lowest.items) long
    (AreLowest-done tails finished c.loop-place.found c.loop-place.lowest.items
    (subst (λ (k : ℕ). AreFoundFrom tails finished k c.loop-place.found c.loop-place.lowest.items) first c.loop-place.invariant)
    (subst (λ (n : ℕ). IsFinishing (NextBack tails) n finished) (sym long) c.requires.finished))
