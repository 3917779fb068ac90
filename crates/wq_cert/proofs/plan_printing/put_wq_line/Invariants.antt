use Rattle.std.proofs.Common.{◌≡◌, ◌++◌, take}
use Rattle.wq_cert.proofs.LineLemmas.{wq_front}
use Rattle.wq_cert.proofs.plan_printing.put_wq_line.Given as goal

-- the line so far has the names of the items so far
abbrev pub invariant-loop-item : goal.invariant-loop-item
invariant-loop-item g l = l.out.items ≡ l.fn.out.items ++ wq_front l.table.names l.q (take l.item-index l.items)
