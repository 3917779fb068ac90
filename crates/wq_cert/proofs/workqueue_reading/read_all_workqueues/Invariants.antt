use Rattle.std.proofs.Common.{map}
use Rattle.wq_text.specs.Lines.{LineView}
use Rattle.wq_cert.specs.Noted.{said_line}
use Rattle.wq_cert.proofs.NotedLemmas.{ReadSoFar}
use Rattle.wq_cert.proofs.workqueue_reading.read_all_workqueues.Given as goal

abbrev pub invariant-loop-line : goal.invariant-loop-line
invariant-loop-line g l = ReadSoFar l.table.names l.groups (map (λ (line : LineView). said_line l.bare line) l.fn.lines) l.workqueues.count l.workqueues.stood.items l.workqueues.lane_of_group.items (map (λ (line : LineView). said_line l.bare line) l.line-iterator)
