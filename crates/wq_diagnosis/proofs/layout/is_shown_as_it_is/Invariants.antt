use Rattle.std.proofs.Common.{◌≡◌, take, map}
use Rattle.wq_findings.specs.Shown.{shown}
use Rattle.wq_diagnosis.proofs.layout.is_shown_as_it_is.Given as goal

-- the bytes so far
abbrev pub invariant-loop-byte : goal.invariant-loop-byte
invariant-loop-byte l = map shown (take l.byte-index l.line) ≡ take l.byte-index l.line
