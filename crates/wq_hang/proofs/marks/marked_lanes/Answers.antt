use Rattle.std.proofs.Common.{◌≡◌, ◌≤◌, ℕ, inl, inr, Bool, true, false, List, length, drop, sym, ap, subst, ◌∙◌, arith, take_at}
use Rattle.std.specs.Prelude.{Contains, slice_index, slice_index_or}
use Rattle.std.proofs.lemmas.Bool.{cases_eq}
use Rattle.wq_core.specs.Wiring.{lane_of, declared_by}
use Rattle.wq_hang.proofs.marks.marked_lanes.Goals as goal

pub loop-i-preserved : goal.loop-i-preserved
loop-i-preserved g c =
    let v = c.args.waits.now in
    let numbers = c.args.numbers.now in
    let new = c.mark_from.new.marks in
    let size = c.mark_from.ensures.len ∙ c.as_mut_slice.ensures.len in
    let whole = take_at new (drop (length new) c.loop-i.marks.items) c.loop-i.marks.len size in
    record {
      len = ap (λ (l : List Bool). length l) whole ∙ c.mark_from.ensures.len ∙ ap (λ (l : List Bool). length l) c.as_mut_slice.ensures.value ∙ c.loop-i.invariant.len;
      marked = λ h hop below low. subst (λ (l : List Bool). slice_index_or l (lane_of v h.flush.item) false ≡ true) (sym whole) (elim (cases_eq h.item c.loop-i.i) [
        | inl same ↦ (
            let item = same ∙ sym c.new.ensures in
            c.mark_from.ensures.marked h.flush (subst (λ (k : ℕ). Contains (declared_by v k) h.flush) item hop.declared) (subst (λ (k : ℕ). slice_index numbers (lane_of v h.flush.item) ≤ slice_index numbers (lane_of v k)) item low)
            )
        | inr other ↦ (
            let before = c.loop-i.invariant.marked h hop (omega arith) low in
            c.mark_from.ensures.kept (lane_of v h.flush.item) (subst (λ (l : List Bool). slice_index_or l (lane_of v h.flush.item) false ≡ true) (sym c.as_mut_slice.ensures.value) before)
            )
      ]);
    }
