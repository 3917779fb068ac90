use Rattle.std.proofs.Common.{map}
use Rattle.wq_cert.specs.Lines.{cert_line}
use Rattle.wq_cert.specs.Reading.{arc_reading}
use Rattle.wq_cert.proofs.GrowthLemmas.{ReadTo}
use Rattle.wq_cert.proofs.arc_reading.read_arcs.Given as goal

abbrev pub invariant-loop-i : goal.invariant-loop-i
invariant-loop-i g l = ReadTo (arc_reading l.table.names) l.count l.i (map cert_line l.fn.lines) l.arcs.items (map cert_line l.lines)
