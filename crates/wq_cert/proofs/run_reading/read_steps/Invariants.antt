use Rattle.std.proofs.Common.{map}
use Rattle.wq_cert.specs.Lines.{cert_line}
use Rattle.wq_cert.specs.Reading.{step_reading}
use Rattle.wq_cert.proofs.GrowthLemmas.{ReadTo}
use Rattle.wq_cert.proofs.run_reading.read_steps.Given as goal

abbrev pub invariant-loop-i : goal.invariant-loop-i
invariant-loop-i g l = ReadTo (step_reading l.table.names) l.count l.i (map cert_line l.fn.lines) l.steps.items (map cert_line l.lines)
