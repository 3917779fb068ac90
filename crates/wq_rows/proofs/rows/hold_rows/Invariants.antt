use Rattle.std.proofs.Common.{length}
use Rattle.wq_rows.proofs.StoredLemmas.{LeadsOn}
use Rattle.wq_rows.proofs.rows.hold_rows.Given as goal

-- the bytes hold rows exactly if those that are left do
abbrev pub invariant-loop-row : goal.invariant-loop-row
invariant-loop-row l = LeadsOn l.fn.bytes l.rest

abbrev pub decreases-loop-row : goal.decreases-loop-row
decreases-loop-row l = length l.rest
