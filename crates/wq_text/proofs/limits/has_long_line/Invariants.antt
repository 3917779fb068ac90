use Rattle.std.proofs.Common.{◌≡◌, length}
use Rattle.wq_text.proofs.LongLines.{has_long}
use Rattle.wq_text.proofs.limits.has_long_line.Given as goal

-- what is left has a line that is too long exactly where the text has one
abbrev pub invariant-loop-rest : goal.invariant-loop-rest
invariant-loop-rest l = has_long l.limit l.rest ≡ has_long l.limit l.fn.text

abbrev pub decreases-loop-rest : goal.decreases-loop-rest
decreases-loop-rest l = length l.rest
