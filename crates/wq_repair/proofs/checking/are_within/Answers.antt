use Rattle.std.proofs.Common.{arith}
use Rattle.wq_repair.proofs.Marks.{IsMarked-below}
use Rattle.wq_repair.proofs.checking.are_within.Goals as goal

pub returns : goal.returns
returns c = λ yes. record {
  kept = c.are_among.ensures yes;
  only = λ k marked. c.loop-group.invariant k
      (omega (arith, IsMarked-below c.args.stays.now k marked, c.loop-group-test.false)) marked;
}
