use Rattle.std.proofs.Common.{◌≡◌, ◌++◌, map, take}
use Rattle.wq_dot.specs.Drawing.{member_line}
use Rattle.wq_dot.proofs.Lines.{text_of}
use Rattle.wq_dot.proofs.group.put_ordered.Given as goal

-- the first two lines, and the lines of the items so far
abbrev pub invariant-loop-item : goal.invariant-loop-item
invariant-loop-item g l = l.out.items ≡ l.initial.out.items ++ text_of (map (member_line l.table.names) (take l.item-index l.members))
