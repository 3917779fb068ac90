use Rattle.std.proofs.Common.{length}
use Rattle.wq_hang.specs.Numbering.{AreGiven}
use Rattle.wq_hang.proofs.numbering.vertex_numbers.Given as goal

abbrev pub invariant-loop-vertex : goal.invariant-loop-vertex
invariant-loop-vertex g l = AreGiven (length l.graph) l.numbering
