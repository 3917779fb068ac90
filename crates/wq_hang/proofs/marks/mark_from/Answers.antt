use Rattle.std.proofs.Common.{◌≡◌, ◌<◌, ◌≤◌, ℕ, inl, inr, Bool, true, false, List, length, set, get_or, sym, ap, subst, ◌∙◌, arith}
use Rattle.std.specs.Prelude.{Contains, slice_index}
use Rattle.std.proofs.lemmas.List.{get_or-set_same, length-set}
use Rattle.wq_items.specs.declared.target.Target.{Target}
use Rattle.wq_core.specs.Wiring.{lane_of}
use Rattle.wq_hang.proofs.Taken.{contains_more, contains_all, marked_kept}
use Rattle.wq_hang.proofs.marks.mark_from.Goals as goal
use Rattle.wq_hang.proofs.marks.mark_from.Goals.{then-numbers-lane, else-numbers-lane}

pub loop-flush-preserved : goal.loop-flush-preserved
loop-flush-preserved g c =
    let v = c.args.waits.now in
    let q : ℕ = c.from-lane.result in
    let items = c.flushes-flush-items.result.now in
    let i : ℕ = c.loop-flush.flush-index in
    let x : Target = c.flush-item.result in
    let marks = c.loop-flush.marks in
    let old = c.loop-flush.invariant in
    let lane : q ≡ lane_of v x.item = c.from-lane.ensures ∙ c.get-in-loop-flush.ensures ∙ c.lane_of-in-loop-flush.ensures.lane in
    let within : q < length marks = omega (arith, c.from-lane.ensures, c.get-in-loop-flush.ensures, c.lane_of-in-loop-flush.ensures.within, c.requires.marks, old.len) in
    elim c.if-numbers-lane.branch [
      | then-numbers-lane w ↦ record {
        len = ap (λ (l : List Bool). length l) w.marks-is ∙ length-set marks q true ∙ old.len;
        kept = λ p is. subst (λ (l : List Bool). get_or l p false ≡ true) (sym w.marks-is) (marked_kept marks q p (old.kept p is));
        marked = λ t there low. subst (λ (l : List Bool). get_or l (lane_of v t.item) false ≡ true) (sym w.marks-is) (elim (contains_more items i x t c.loop-flush-test.true there) [
          | inl before ↦ marked_kept marks q (lane_of v t.item) (old.marked t before low)
          | inr same ↦ (
              let it : lane_of v t.item ≡ q = ap (λ (u : Target). lane_of v u.item) (sym (c.flush-item.is ∙ same)) ∙ sym lane in
              subst (λ (p : ℕ). get_or (set marks q true) p false ≡ true) (sym it) (get_or-set_same marks q true false within)
              )
        ]);
      }
      | else-numbers-lane w ↦ record {
        len = ap (λ (l : List Bool). length l) w.marks-is ∙ old.len;
        kept = λ p is. subst (λ (l : List Bool). get_or l p false ≡ true) (sym w.marks-is) (old.kept p is);
        marked = λ t there low. subst (λ (l : List Bool). get_or l (lane_of v t.item) false ≡ true) (sym w.marks-is) (elim (contains_more items i x t c.loop-flush-test.true there) [
          | inl before ↦ old.marked t before low
          | inr same ↦ (
              let it : lane_of v t.item ≡ q = ap (λ (u : Target). lane_of v u.item) (sym (c.flush-item.is ∙ same)) ∙ sym lane in
              absurd (omega (arith, low, w.if-numbers-lane.false, ap (slice_index c.args.numbers.now) it))
              )
        ]);
      }
    ]

pub returns-clause-marked : goal.returns-clause-marked
returns-clause-marked g c t there low =
    let v = c.args.waits.now in
    let numbers = c.args.numbers.now in
    let own = c.from.ensures ∙ c.get.ensures ∙ c.lane_of.ensures.lane in
    let here : Contains c.flushes-flush-items.result.now t = subst (λ (l : List Target). Contains l t) (sym c.flushes-flush-items.ensures) there in
    c.loop-flush.invariant.marked t (contains_all c.flushes-flush-items.result.now c.loop-flush.flush-index t c.loop-flush-test.false here)
    (subst (λ (n : ℕ). slice_index numbers (lane_of v t.item) ≤ slice_index numbers n) (sym own) low)
