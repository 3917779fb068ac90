use Rattle.std.proofs.Common.{◌≡◌, take}
use Rattle.wq_dot.specs.Flushes.{with_bold_red}
use Rattle.wq_dot.proofs.flushes.mark_bold_red.Given as goal

-- the flushes of the waits so far are marked
abbrev pub invariant-loop-hop : goal.invariant-loop-hop
invariant-loop-hop l = l.looks ≡ with_bold_red l.fn.looks (take l.hop-index l.hops)
