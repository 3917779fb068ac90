use Rattle.std.proofs.Common.{◌≡◌, ◌+◌, ◌++◌, ◌∷◌, [], ℕ, true, false, List, length, get_or, map, sym, ap, ◌∙◌, arith}
use Rattle.std.specs.List.{range_with_len}
use Rattle.std.proofs.lemmas.List.FromFn.{map-range_with_len_more, length-map-range_with_len}
use Rattle.wq_items.specs.Readings.{is_among, places_before}
use Rattle.wq_items.proofs.Ranks.{before-zero}
use Rattle.wq_items.proofs.ReadingLists.{marked-at, before-more}
use Rattle.wq_items.proofs.readings.new_places.Goals as goal
use Rattle.wq_items.proofs.readings.new_places.Goals.{then-mark, else-mark}

pub loop-mark-init : goal.loop-mark-init
loop-mark-init g c = (c.in_ok-places.ensures.items, sym (before-zero c.args.kept.now), omega arith)

pub overflow_add-before : goal.overflow_add-before
overflow_add-before g c =
    let long : length c.as_slice-mark-items.result.now ≡ c.args.count =
    ap length (c.as_slice-mark-items.ensures.value ∙ c.in_ok-marks.ensures)
    ∙ length-map-range_with_len (is_among c.args.kept.now) 0 c.args.count in
    omega (arith, c.loop-mark.invariant.2, c.loop-mark-test.true, long, c.ranges.count.fits)

pub loop-mark-preserved : goal.loop-mark-preserved
loop-mark-preserved g c =
    let kept : List ℕ = c.args.kept.now in
    let n : ℕ = c.loop-mark.mark-index in
    let grown : c.push.new.self.items ≡ map (places_before kept) (range_with_len 0 (n + 1)) =
    c.in_ok-push.ensures.items
    ∙ ap (λ (l : List ℕ). l ++ (c.loop-mark.before ∷ [])) c.loop-mark.invariant.0
    ∙ ap (λ (b : ℕ). map (places_before kept) (range_with_len 0 n) ++ (b ∷ [])) c.loop-mark.invariant.1
    ∙ sym (map-range_with_len_more (places_before kept) 0 n n (omega arith)) in
    let all : c.as_slice-mark-items.result.now ≡ map (is_among kept) (range_with_len 0 c.args.count) =
    c.as_slice-mark-items.ensures.value ∙ c.in_ok-marks.ensures in
    let is : is_among kept n ≡ get_or c.as_slice-mark-items.result.now n false =
    marked-at kept c.args.count n c.as_slice-mark-items.result.now all c.loop-mark-test.true in
    elim c.if-mark.branch [
      | then-mark w ↦ (
        grown,
        w.before-is ∙ before-more kept n c.loop-mark.before true c.requires (is ∙ w.if-mark.true)
            c.loop-mark.invariant.1,
        omega (arith, w.before-is, c.loop-mark.invariant.2),
      )
      | else-mark w ↦ (
        grown,
        w.before-is ∙ before-more kept n c.loop-mark.before false c.requires (is ∙ w.if-mark.false)
            c.loop-mark.invariant.1,
        omega (arith, w.before-is, c.loop-mark.invariant.2),
      )
    ]

pub returns : goal.returns
returns g c =
    let kept : List ℕ = c.args.kept.now in
    let long : length c.as_slice-mark-items.result.now ≡ c.args.count =
    ap length (c.as_slice-mark-items.ensures.value ∙ c.in_ok-marks.ensures)
    ∙ length-map-range_with_len (is_among kept) 0 c.args.count in
    let all : c.loop-mark.mark-index ≡ c.args.count = omega (
      arith,
      c.loop-mark-test.false,
      c.loop-mark.auto.mark-index-end,
      long,
    ) in
    c.loop-mark.invariant.0 ∙ ap (λ (n : ℕ). map (places_before kept) (range_with_len 0 n)) all
