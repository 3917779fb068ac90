use Rattle.std.proofs.Common.{◌-◌, map}
use Rattle.wq_cert.specs.Lines.{cert_line}
use Rattle.wq_cert.proofs.ReadParts.{PartRead}
use Rattle.wq_cert.proofs.part_reading.read_unsure_lines.Given as goal

abbrev pub invariant-loop-i : goal.invariant-loop-i
invariant-loop-i g l =
    PartRead l.table.names l.table.waits l.count (map cert_line l.fn.lines) l.places.items l.marks.items
    (l.count - l.i) (map cert_line l.lines)
