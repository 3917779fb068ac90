use Rattle.std.proofs.Common.{◌≡◌, take}
use Rattle.wq_dot.specs.Flushes.{with_marks}
use Rattle.wq_dot.proofs.flushes.mark.Given as goal

-- the flushes of the arcs so far are marked
abbrev pub invariant-loop-arc : goal.invariant-loop-arc
invariant-loop-arc l = l.looks ≡ with_marks l.look l.fn.looks (take l.arc-index l.arcs)
