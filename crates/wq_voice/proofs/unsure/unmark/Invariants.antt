use Rattle.std.proofs.Common.{◌∷◌, [], take}
use Rattle.std.specs.Prelude.{flat_map}
use Rattle.wq_graph.specs.declared.arc.WaitArc.{WaitArc}
use Rattle.wq_voice.proofs.UnsureNotes.{AreUnmarked}
use Rattle.wq_voice.proofs.unsure.unmark.Given as goal

-- the marks of the flushes so far were taken away
abbrev pub invariant-loop-arc : goal.invariant-loop-arc
invariant-loop-arc l =
    AreUnmarked l.fn.marks (flat_map (λ (a : WaitArc). a.place ∷ []) (take l.arc-index l.arcs)) l.marks
