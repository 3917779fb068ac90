use Rattle.std.proofs.Common.{◌≡◌}
use Rattle.wq_text.specs.Limits.{first_long_line}
use Rattle.wq_text.proofs.line.Lines.first_longer_than.Given as goal

-- the first long line of those that are left is that of them all
abbrev pub invariant-loop-line : goal.invariant-loop-line
invariant-loop-line l = first_long_line l.limit l.line-iterator ≡ first_long_line l.limit l.fn.self
