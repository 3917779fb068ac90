use Rattle.std.proofs.Common.{take}
use Rattle.wq_hang.proofs.SomeLanes.{AreKept}
use Rattle.wq_hang.proofs.rounds.leave_others_out.Given as goal

abbrev pub invariant-loop-q : goal.invariant-loop-q
invariant-loop-q g l = AreKept l.wires (take l.q-index l.lanes) l.bare.items
