use Rattle.std.proofs.Common.{◌≡◌, ◌++◌, map}
use Rattle.wq_cert.specs.Lines.{cert_line}
use Rattle.wq_cert.specs.Reading.{is_bare_line}
use Rattle.wq_cert.proofs.lanes_reading.bare_lines.Given as goal

abbrev pub invariant-loop-line : goal.invariant-loop-line
invariant-loop-line g l = l.bare.items ++ map is_bare_line (map cert_line l.line-iterator) ≡ map is_bare_line (map cert_line l.fn.lines)
