use Rattle.std.proofs.Common.{◌≡◌, length}
use Rattle.wq_hang.proofs.numbering.count_arcs.Given as goal

abbrev pub invariant-loop-arc : goal.invariant-loop-arc
invariant-loop-arc l = length l.left ≡ length l.initial.left
