use Rattle.std.proofs.Common.{ℕ, List, Vec, map, ap, subst, ◌∙◌}
use Rattle.std.specs.Prelude.{flat_map}
use Rattle.std.proofs.lemmas.List.{take_all}
use Rattle.wq_graph.specs.declared.arc.WaitArc.{WaitArc}
use Rattle.wq_voice.proofs.UnsureNotes.{places-of, AreUnmarked}
use Rattle.wq_voice.proofs.unsure.unmark_components.Goals as goal

pub returns-clause-marks : goal.returns-clause-marks
returns-clause-marks g c =
    let components = c.args.components.now in
    let arcs_of : Vec WaitArc g.row.A.Denot → List WaitArc = λ v. v.items in
    subst (λ (places : List ℕ). AreUnmarked c.args.marks.now places c.loop-arcs.marks)
    (ap (flat_map (λ v. map (λ (a : WaitArc). a.place) (arcs_of v)))
    (take_all c.loop-arcs.arcs-index components c.loop-arcs-test.false) ∙ places-of arcs_of components)
    c.loop-arcs.invariant
