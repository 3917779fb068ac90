use Rattle.std.proofs.Common.{◌++◌, ℕ, Bool, List, length, map, ap, ap₂, ◌∙◌, arith}
use Rattle.std.proofs.lemmas.List.FromFn.{length-map-range_with_len}
use Rattle.std.proofs.lemmas.Result.{IfOk-weaker}
use Rattle.wq_items.specs.Table.{flush_count, Table}
use Rattle.wq_graph.specs.declared.arc.WaitArc.{WaitArc}
use Rattle.wq_core.specs.Workqueues.{Workqueues}
use Rattle.wq_groups.specs.DeclaredGroups.{declared_waits}
use Rattle.wq_commands.proofs.AnswerLemmas.{IsDeclaration-sound}
use Rattle.wq_circles.proofs.OfAssigned.{waits_between_items}
use Rattle.wq_dot.specs.declared.look.FlushLook.{FlushLook}
use Rattle.wq_voice.specs.Unsure.{unsure_count}
use Rattle.wq_dot.specs.Drawing.{drawing_text}
use Rattle.wq_dot.specs.Flushes.{all_arcs, bold_red, marked, red_look_at, red_looks_of}
use Rattle.wq_dot.specs.Dotting.{circles_title}
use Rattle.wq_dot.proofs.Placed.{AreFlushes-shortest, AreMarkable-components, AreMarkable-waits}
use Rattle.wq_dot.proofs.dotting.draw_components.Goals as goal

pub hanging_flushes-requires-clause-places : goal.hanging_flushes-requires-clause-places
hanging_flushes-requires-clause-places g c =
    let a = c.args.assigned.now in
    let is = c.table.ensures.assigned in
    rw c.table.ensures.is
    (AreMarkable-components (declared_waits a.declared) a.workqueues _ (IsDeclaration-sound a.declared is.declared)
    is.assignment.assignment c.requires.found)

pub hanging_flushes-requires-clause-waits : goal.hanging_flushes-requires-clause-waits
hanging_flushes-requires-clause-waits g c =
    let a = c.args.assigned.now in
    let is = c.table.ensures.assigned in
    rw (c.table.ensures.is, c.requires.waits)
    (AreMarkable-waits (declared_waits a.declared) a.workqueues (IsDeclaration-sound a.declared is.declared)
    is.assignment.assignment)

pub hanging_flushes-requires-clause-hops : goal.hanging_flushes-requires-clause-hops
hanging_flushes-requires-clause-hops g c =
    let a = c.args.assigned.now in
    let is = c.table.ensures.assigned in
    rw c.table.ensures.is
    (AreFlushes-shortest (declared_waits a.declared) a.workqueues (IsDeclaration-sound a.declared is.declared)
    c.args.hops.now c.requires.shortest)

pub marked-red-requires : goal.marked-red-requires
marked-red-requires g c =
    omega (
      arith,
      ap (λ (l : List FlushLook). length l) (c.as_slice.ensures.value ∙ c.in_ok-looks.ensures),
      length-map-range_with_len
          (red_look_at c.args.hops.now (all_arcs (map (λ v. v.items) c.args.components.now) ++ c.args.waits.now)) 0
          (flush_count c.table.result.now.waits),
      ap (λ (t : Table). flush_count t.waits) c.table.ensures.is,
      c.table.ensures.assigned.declared.table.few_flushes,
    )

pub bold_red-bold-requires : goal.bold_red-bold-requires
bold_red-bold-requires g c =
    omega (
      arith,
      ap (λ (l : List FlushLook). length l) (c.as_slice-2.ensures.value ∙ c.in_ok-looks.ensures),
      length-map-range_with_len
          (red_look_at c.args.hops.now (all_arcs (map (λ v. v.items) c.args.components.now) ++ c.args.waits.now)) 0
          (flush_count c.table.result.now.waits),
      ap (λ (t : Table). flush_count t.waits) c.table.ensures.is,
      c.table.ensures.assigned.declared.table.few_flushes,
    )

pub drawing_text-requires : goal.drawing_text-requires
drawing_text-requires g c = record {
  looks =
      ap (λ (l : List FlushLook). length l) (c.as_slice-4.ensures.value ∙ c.in_ok-looks.ensures)
      ∙ length-map-range_with_len
      (red_look_at c.args.hops.now (all_arcs (map (λ v. v.items) c.args.components.now) ++ c.args.waits.now)) 0
      (flush_count c.table.result.now.waits)
      ∙ ap (λ (t : Table). flush_count t.waits) c.table.ensures.is;
}

pub overflow_cast-waits : goal.overflow_cast-waits
overflow_cast-waits g c =
    let few = (waits_between_items c.args.assigned.now c.table.ensures.assigned).0 in
    omega (arith, ap (λ (l : List WaitArc). length l) c.requires.waits, few)

pub returns : goal.returns
returns g c =
    let s = c.args.assigned.now.declared in
    let ws = c.args.assigned.now.workqueues in
    let t = s.table in
    let p = s.partition in
    let called = map (λ v. v.now) c.args.called.now in
    let comments = map (λ v. v.now) c.args.comments.now in
    let hanging = c.args.hanging.now in
    let hops = c.args.hops.now in
    let waits = c.args.waits.now in
    let bare = c.bare-bare.result.now in
    let components = map (λ v. v.items) c.args.components.now in
    let count = ap (λ (t : Table). flush_count t.waits) c.table.ensures.is in
    let bare_is = c.bare-bare.ensures ∙ ap (λ (ws : Workqueues). ws.bare) c.workqueues.ensures.is in
    let looks_with : List WaitArc → List FlushLook =
    λ l. red_looks_of (flush_count t.waits) hops (all_arcs components ++ l) in
    let title_with : ℕ → List Bool → List FlushLook → List ℕ =
    λ leading b l. circles_title hanging leading b (marked l) (bold_red l) (unsure_count t.waits) in
    let looked =
    c.in_ok-looks.ensures ∙ ap (λ (n : ℕ). red_looks_of n hops (all_arcs components ++ waits)) count in
    let counted = c.marked-red.ensures ∙ ap marked (c.as_slice.ensures.value ∙ looked) in
    let bold = c.bold_red-bold.ensures ∙ ap bold_red (c.as_slice-2.ensures.value ∙ looked) in
    let unsure = c.unsure_count-unsure.ensures ∙ ap (λ (x : Table). unsure_count x.waits) c.table-2.ensures.is in
    let title =
    c.as_slice-3.ensures.value ∙ c.in_ok-title.ensures
    ∙ ap₂ (λ (red all : ℕ). circles_title hanging (length waits) bare red all c.unsure_count-unsure.result) counted bold
    ∙ ap (circles_title hanging (length waits) bare (marked (looks_with waits)) (bold_red (looks_with waits))) unsure in
    let looks = c.as_slice-4.ensures.value ∙ looked in
    IfOk-weaker c.drawing_text.result _ _
    (λ text drawn. record {
      components = components;
      are = c.requires.found;
      shortest = c.requires.shortest;
      drawn =
          drawn
          ∙ ap₂ (λ (ti : List ℕ) (l : List FlushLook). drawing_text t p ws called ti l comments) title looks
          ∙ ap (λ (b : List Bool). drawing_text t p ws called (title_with (length waits) b (looks_with waits))
          (looks_with waits) comments) bare_is
          ∙ ap (λ (l : List WaitArc). drawing_text t p ws called (title_with (length l) ws.bare (looks_with l))
          (looks_with l) comments) c.requires.waits;
    })
    c.drawing_text.ensures
