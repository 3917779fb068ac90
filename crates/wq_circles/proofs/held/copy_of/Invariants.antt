use Rattle.std.proofs.Common.{◌≡◌, take}
use Rattle.wq_circles.proofs.held.copy_of.Given as goal

abbrev pub invariant-loop-arc : goal.invariant-loop-arc
invariant-loop-arc g l = l.copy.items ≡ take l.arc-index l.arcs
