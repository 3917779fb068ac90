use Rattle.std.proofs.Common.{◌≡◌, ◌++◌, map, take}
use Rattle.wq_dot.specs.Drawing.{flush_line}
use Rattle.wq_dot.proofs.Lines.{text_of}
use Rattle.wq_dot.proofs.drawing.put_flushes.Given as goal

-- the flushes so far
abbrev pub invariant-loop-flush : goal.invariant-loop-flush
invariant-loop-flush g l =
    l.out.items
    ≡ l.fn.out.items ++ text_of (map (flush_line l.table.names l.table.waits l.looks (map (λ v. v.now) l.comments))
    (take l.flush-index l.flush-items))
