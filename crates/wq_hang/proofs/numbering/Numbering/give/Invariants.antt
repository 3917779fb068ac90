use Rattle.std.proofs.Common.{length}
use Rattle.wq_hang.specs.Numbering.{AreGiven}
use Rattle.wq_hang.proofs.numbering.Numbering.give.Given as goal

abbrev pub invariant-loop-arc : goal.invariant-loop-arc
invariant-loop-arc g l = AreGiven (length l.graph) l.self
