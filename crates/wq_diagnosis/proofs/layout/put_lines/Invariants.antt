use Rattle.std.proofs.Common.{◌≡◌, ◌++◌, take, map}
use Rattle.wq_diagnosis.specs.Diagnosis.{shown_lines}
use Rattle.wq_diagnosis.proofs.layout.put_lines.Given as goal

-- the lines so far
abbrev pub invariant-loop-line : goal.invariant-loop-line
invariant-loop-line g l = l.out.items ≡ l.fn.out.items ++ shown_lines (map (λ line. line.items) (take l.line-index l.lines))
