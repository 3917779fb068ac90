use Rattle.std.proofs.Common.{◌≡◌, ℕ, Bool, List, length, map, take_at, ap, subst, ◌∙◌}
use Rattle.std.specs.Prelude.{flat_map}
use Rattle.wq_graph.specs.declared.arc.WaitArc.{WaitArc}
use Rattle.wq_voice.proofs.UnsureNotes.{are_idle, AreUnmarked}
use Rattle.wq_voice.proofs.unsure.idle_marks.Goals as goal

pub returns : goal.returns
returns g c =
    let components : List (List WaitArc) = map (λ v. v.items) c.args.components.now in
    let bare : List WaitArc = c.args.waits.now in
    let marks : List Bool = c.in_ok-marks.marks.items in
    let middle : List Bool = c.unmark_components.new.marks in
    let new : List Bool = c.unmark.new.marks in
    let some : List ℕ = map (λ (a : WaitArc). a.place) (flat_map (λ arcs. arcs) components) in
    let more : List ℕ = map (λ (a : WaitArc). a.place) bare in
    let on : c.as_mut_slice-2.result.now ≡ middle =
    c.as_mut_slice-2.ensures.value
    ∙ take_at middle _ c.in_ok-marks.marks.len (c.unmark_components.ensures.len ∙ c.as_mut_slice.ensures.len) in
    take_at new _ c.in_ok-marks.marks.len (c.unmark.ensures.len ∙ c.as_mut_slice-2.ensures.len)
    ∙ are_idle c.args.table.now.waits components bare marks middle new c.in_ok-marks.ensures
    (c.unmark_components.ensures.len ∙ ap length c.as_mut_slice.ensures.value) (c.unmark.ensures.len ∙ ap length on)
    (subst (λ (l : List Bool). AreUnmarked l some middle) c.as_mut_slice.ensures.value
    c.unmark_components.ensures.marks)
    (subst (λ (l : List Bool). AreUnmarked l more new) on c.unmark.ensures.marks)
