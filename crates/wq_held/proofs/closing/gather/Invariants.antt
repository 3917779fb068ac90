use Rattle.wq_held.specs.Locked.{slots}
use Rattle.std.proofs.Common.{vec_len}
use Rattle.wq_held.proofs.Closings.{IsGathered}
use Rattle.wq_held.proofs.closing.gather.Given as goal

-- the seats that aren't left are taken in
abbrev pub invariant-loop-seat : goal.invariant-loop-seat
invariant-loop-seat g l = IsGathered (slots g.N.Naming.wiring) g.N.Ledger.parts l.fn.ledger.total l.fn.seats.items l.seats.items l.sums l.rest.parts l.rest.amount (vec_len l.seats) l.ledger.total

abbrev pub decreases-loop-seat : goal.decreases-loop-seat
decreases-loop-seat g l = goal.left-loop-seat g l
