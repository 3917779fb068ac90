use Rattle.std.proofs.Common.{length}
use Rattle.std.specs.Prelude.{⊤}
use Rattle.wq_voice.proofs.flush_lines.FlushLines.new.Given as goal

abbrev pub invariant-loop-start : goal.invariant-loop-start
invariant-loop-start g l = ⊤

-- each turn takes a line at least
abbrev pub decreases-loop-start : goal.decreases-loop-start
decreases-loop-start g l = length l.lines
