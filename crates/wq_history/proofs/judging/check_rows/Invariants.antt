use Rattle.std.proofs.Common.{length}
use Rattle.wq_history.proofs.Judged.{JudgedSoFar}
use Rattle.wq_history.proofs.judging.check_rows.Given as goal

-- the rows of the bytes that aren't left are judged
abbrev pub invariant-loop-bytes : goal.invariant-loop-bytes
invariant-loop-bytes g l = JudgedSoFar l.fn.core l.fn.packed l.left l.core l.asks l.rows

abbrev pub decreases-loop-bytes : goal.decreases-loop-bytes
decreases-loop-bytes g l = length l.left
