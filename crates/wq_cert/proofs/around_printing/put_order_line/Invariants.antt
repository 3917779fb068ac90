use Rattle.std.proofs.Common.{◌≡◌, ◌++◌, take}
use Rattle.wq_cert.proofs.OrderLines.{order_front}
use Rattle.wq_cert.proofs.around_printing.put_order_line.Given as goal

-- the line so far has the workqueues so far
abbrev pub invariant-loop-lane : goal.invariant-loop-lane
invariant-loop-lane g l = l.out.items ≡ l.fn.out.items ++ order_front (take l.lane-index l.order)
