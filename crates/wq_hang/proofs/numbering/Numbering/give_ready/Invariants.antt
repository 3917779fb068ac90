use Rattle.std.proofs.Common.{length}
use Rattle.wq_hang.specs.Numbering.{AreGiven}
use Rattle.wq_hang.proofs.numbering.Numbering.give_ready.Given as goal

abbrev pub invariant-loop : goal.invariant-loop
invariant-loop g l = AreGiven (length l.graph) l.self
