use Rattle.wq_circles.proofs.Settled.{IsSettling}
use Rattle.wq_circles.proofs.together.settle.Given as goal

abbrev pub invariant-loop-vertex : goal.invariant-loop-vertex
invariant-loop-vertex l = IsSettling l.vertices l.initial.lowest l.lowest l.least l.vertex-index
