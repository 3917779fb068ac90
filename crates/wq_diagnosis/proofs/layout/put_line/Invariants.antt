use Rattle.std.proofs.Common.{◌≡◌, ◌++◌, take, map}
use Rattle.wq_findings.specs.Shown.{shown}
use Rattle.wq_diagnosis.proofs.layout.put_line.Given as goal

-- the bytes so far
abbrev pub invariant-loop-byte : goal.invariant-loop-byte
invariant-loop-byte g l = l.out.items ≡ l.fn.out.items ++ map shown (take l.byte-index l.line)
