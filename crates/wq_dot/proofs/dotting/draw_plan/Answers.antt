use Rattle.std.proofs.Common.{ℕ, Bool, List, [], length, map, ap, ap₂, ◌∙◌, arith}
use Rattle.std.proofs.lemmas.List.FromFn.{length-map-range_with_len}
use Rattle.std.proofs.lemmas.Result.{IfOk-weaker}
use Rattle.wq_items.specs.Table.{flush_count, Table}
use Rattle.wq_groups.specs.Assignment.{Assignment}
use Rattle.wq_graph.specs.declared.arc.WaitArc.{WaitArc}
use Rattle.wq_core.specs.Workqueues.{Workqueues, all_rescued}
use Rattle.wq_groups.specs.DeclaredGroups.{declared_waits}
use Rattle.wq_commands.proofs.AnswerLemmas.{IsDeclaration-sound}
use Rattle.wq_dot.specs.declared.look.FlushLook.{FlushLook}
use Rattle.wq_dot.specs.declared.look.FlushLook.TheVariants.{Bold}
use Rattle.wq_voice.specs.Unsure.{unsure_count}
use Rattle.wq_dot.specs.Drawing.{drawing_text}
use Rattle.wq_dot.specs.Flushes.{look_at, looks_of, marked}
use Rattle.wq_dot.specs.Dotting.{declared_looks, drawing_of, plan_title}
use Rattle.wq_dot.proofs.Placed.{AreMarkable-planned}
use Rattle.wq_dot.proofs.dotting.draw_plan.Goals as goal

pub bold_flushes-requires : goal.bold_flushes-requires
bold_flushes-requires g c =
    let a = c.args.assigned.now in
    let is = c.table.ensures.assigned in
    rw c.table.ensures.is
    (AreMarkable-planned (declared_waits a.declared) a.workqueues.assignment c.args.chain.now
    (IsDeclaration-sound a.declared is.declared) c.requires.planned)

pub marked-requires : goal.marked-requires
marked-requires g c =
    omega (
      arith,
      ap (λ (l : List FlushLook). length l) (c.as_slice.ensures.value ∙ c.in_ok-looks.ensures),
      length-map-range_with_len (look_at Bold c.args.chain.now) 0 (flush_count c.table.result.now.waits),
      ap (λ (t : Table). flush_count t.waits) c.table.ensures.is,
      c.table.ensures.assigned.declared.table.few_flushes,
    )

pub drawing_text-requires : goal.drawing_text-requires
drawing_text-requires g c = record {
  looks =
      ap (λ (l : List FlushLook). length l) (c.as_slice-3.ensures.value ∙ c.in_ok-looks.ensures)
      ∙ length-map-range_with_len (look_at Bold c.args.chain.now) 0 (flush_count c.table.result.now.waits)
      ∙ ap (λ (t : Table). flush_count t.waits) c.table.ensures.is;
}

pub returns : goal.returns
returns g c =
    let s = c.args.assigned.now.declared in
    let ws = c.args.assigned.now.workqueues in
    let a = ws.assignment in
    let chain = c.args.chain.now in
    let comments = map (λ v. v.now) c.args.comments.now in
    let count = ap (λ (t : Table). flush_count t.waits) c.table.ensures.is in
    let all : ℕ = unsure_count s.table.waits in
    let lanes =
    c.lanes-workqueues.ensures.lanes
    ∙ ap (λ (x : Assignment). x.lanes) c.assignment.ensures
    ∙ ap (λ (x : Workqueues). x.assignment.lanes) c.workqueues.ensures.is in
    let counted = c.marked.ensures ∙ ap marked (c.as_slice.ensures.value ∙ c.in_ok-looks.ensures) in
    let unsure = c.unsure_count-unsure.ensures ∙ ap (λ (x : Table). unsure_count x.waits) c.table-2.ensures.is in
    let title =
    c.as_slice-2.ensures.value ∙ c.in_ok-title.ensures
    ∙ ap₂ (λ (n bold : ℕ). plan_title n bold c.unsure_count-unsure.result) lanes counted
    ∙ ap (plan_title a.lanes (marked (looks_of (flush_count c.table.result.now.waits) Bold chain))) unsure in
    let looks = c.as_slice-3.ensures.value ∙ c.in_ok-looks.ensures in
    IfOk-weaker c.drawing_text.result _ _ (λ text drawn. record {
      assignment = a;
      plan = c.requires.planned.plan;
      drawn =
          drawn
          ∙ ap₂ (λ (t : List ℕ) (l : List FlushLook). drawing_text s.table s.partition ws [] t l comments) title looks
          ∙ ap (λ (n : ℕ). drawing_text s.table s.partition ws []
          (plan_title a.lanes (marked (looks_of n Bold chain)) all)
          (looks_of n Bold chain) comments) count
          ∙ ap (λ (bare : List Bool). drawing_of s (record { assignment = a; bare = bare }) []
          (λ (l : List FlushLook). plan_title a.lanes (marked l) all) (declared_looks s Bold chain) comments)
          c.requires.rescued
          ∙ ap (λ (l : List WaitArc). drawing_of s (all_rescued a) []
          (λ (ls : List FlushLook). plan_title a.lanes (marked ls) all) (declared_looks s Bold l) comments)
          c.requires.planned.longest;
    }) c.drawing_text.ensures
