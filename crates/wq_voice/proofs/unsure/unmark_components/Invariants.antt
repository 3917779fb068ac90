use Rattle.std.proofs.Common.{map, take}
use Rattle.std.specs.Prelude.{flat_map}
use Rattle.wq_graph.specs.declared.arc.WaitArc.{WaitArc}
use Rattle.wq_voice.proofs.UnsureNotes.{AreUnmarked}
use Rattle.wq_voice.proofs.unsure.unmark_components.Given as goal

-- the marks of the components so far were taken away
abbrev pub invariant-loop-arcs : goal.invariant-loop-arcs
invariant-loop-arcs g l =
    AreUnmarked l.fn.marks
    (flat_map (λ v. map (λ (a : WaitArc). a.place) v.items) (take l.arcs-index l.components)) l.marks
