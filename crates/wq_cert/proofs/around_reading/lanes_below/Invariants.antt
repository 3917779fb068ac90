use Rattle.wq_cert.proofs.OrderLines.{AreBelow}
use Rattle.wq_cert.proofs.around_reading.lanes_below.Given as goal

abbrev pub invariant-loop-number : goal.invariant-loop-number
invariant-loop-number g l = AreBelow l.lanes l.numbers l.order.items l.number-index
