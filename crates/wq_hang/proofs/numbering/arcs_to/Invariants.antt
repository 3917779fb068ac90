use Rattle.std.proofs.Common.{◌≡◌, length}
use Rattle.wq_hang.proofs.numbering.arcs_to.Given as goal

abbrev pub invariant-loop-v : goal.invariant-loop-v
invariant-loop-v g l = length l.left.items ≡ length l.graph
