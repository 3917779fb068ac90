use Rattle.std.proofs.Common.{◌-◌, [], map}
use Rattle.wq_cert.specs.Lines.{cert_line}
use Rattle.wq_cert.proofs.NotedLemmas.{ReadSome}
use Rattle.wq_cert.proofs.workqueue_reading.read_next_workqueues.Given as goal

abbrev pub invariant-loop-i : goal.invariant-loop-i
invariant-loop-i g l =
    ReadSome l.table.names l.groups l.count [] (map cert_line l.fn.lines) l.workqueues.count l.workqueues.stood.items
    l.workqueues.lane_of_group.items (l.count - l.i) (map cert_line l.lines)
