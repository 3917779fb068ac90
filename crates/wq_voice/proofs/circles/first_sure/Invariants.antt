use Rattle.std.proofs.Common.{◌≡◌, take, None}
use Rattle.std.specs.Prelude.{find, not}
use Rattle.wq_graph.specs.declared.arc.WaitArc.{WaitArc}
use Rattle.wq_voice.specs.Components.{is_unsure}
use Rattle.wq_voice.proofs.circles.first_sure.Given as goal

-- none of the flushes so far is sure
abbrev pub invariant-loop-arc : goal.invariant-loop-arc
invariant-loop-arc g l =
    find (λ (a : WaitArc). not (is_unsure l.assigned.declared.table.waits a.src a.place)) (take l.arc-index l.waits)
    ≡ None
