use Rattle.std.proofs.Common.{◌∷◌, [], ℕ, List, ap, subst, ◌∙◌}
use Rattle.std.specs.Prelude.{flat_map}
use Rattle.std.proofs.lemmas.List.{take_all}
use Rattle.std.proofs.lemmas.List.Concat.{flat_map_single}
use Rattle.wq_graph.specs.declared.arc.WaitArc.{WaitArc}
use Rattle.wq_voice.proofs.UnsureNotes.{AreUnmarked}
use Rattle.wq_voice.proofs.unsure.unmark.Goals as goal

pub returns-clause-marks : goal.returns-clause-marks
returns-clause-marks c =
    let arcs = c.args.arcs.now in
    subst (λ (places : List ℕ). AreUnmarked c.args.marks.now places c.loop-arc.marks)
    (ap (flat_map (λ (a : WaitArc). a.place ∷ [])) (take_all c.loop-arc.arc-index arcs c.loop-arc-test.false)
    ∙ flat_map_single (λ (a : WaitArc). a.place) arcs) c.loop-arc.invariant
