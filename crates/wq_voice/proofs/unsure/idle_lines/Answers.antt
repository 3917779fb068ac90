use Rattle.std.proofs.Common.{◌≡◌, ℕ, Bool, List, length, map, ap, ◌∙◌, arith}
use Rattle.std.specs.List.{count_by, range_with_len}
use Rattle.std.proofs.lemmas.List.FromFn.{length-map-range_with_len}
use Rattle.std.proofs.lemmas.Result.{IfOk-weaker}
use Rattle.wq_items.specs.Table.{flush_count}
use Rattle.wq_graph.specs.declared.arc.WaitArc.{WaitArc}
use Rattle.wq_voice.specs.Unsure.{is_idle}
use Rattle.wq_voice.proofs.UnsureNotes.{marks-count}
use Rattle.wq_voice.proofs.unsure.idle_lines.Goals as goal

pub marked_lines-requires : goal.marked_lines-requires
marked_lines-requires g c =
    let waits = c.args.table.now.waits in
    let components : List (List WaitArc) = map (λ v. v.items) c.args.components.now in
    let idle : ℕ → Bool = is_idle waits components c.args.waits.now in
    omega (
      arith,
      ap length (c.as_slice.ensures.value ∙ c.in_ok-marks.ensures),
      length-map-range_with_len idle 0 (flush_count waits),
      c.flushes-flushes.ensures.count,
      c.flushes-flushes.ensures.limit,
    )

pub returns : goal.returns
returns g c =
    let waits = c.args.table.now.waits in
    let components : List (List WaitArc) = map (λ v. v.items) c.args.components.now in
    let idle : ℕ → Bool = is_idle waits components c.args.waits.now in
    IfOk-weaker c.marked_lines.result _ _ (λ lines is.
    is
    ∙ ap (λ (l : List Bool). count_by (λ (mark : Bool). mark) l) (c.as_slice.ensures.value ∙ c.in_ok-marks.ensures)
    ∙ marks-count idle (range_with_len 0 (flush_count waits))) c.marked_lines.ensures
