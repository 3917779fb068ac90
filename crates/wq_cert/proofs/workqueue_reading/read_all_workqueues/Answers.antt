use Rattle.std.proofs.Common.{map, sym, ◌∙◌}
use Rattle.wq_text.specs.Lines.{LineView}
use Rattle.wq_cert.specs.Noted.{said_line}
use Rattle.wq_cert.proofs.NotedLemmas.{ReadSoFar-stop}
use Rattle.wq_cert.proofs.workqueue_reading.read_all_workqueues.Goals as goal

pub returns-then-not-begins_wq-clause-workqueues : goal.returns-then-not-begins_wq-clause-workqueues
returns-then-not-begins_wq-clause-workqueues g c =
    let q = c.loop-line.workqueues in
    ReadSoFar-stop c.args.table.now.names c.args.groups.now (map (λ (line : LineView). said_line c.args.bare line) c.args.lines) q.count q.stood.items q.lane_of_group.items c.args.bare c.loop-line.line-iterator c.loop-line.invariant
    c.in-Some.line c.next.new.self c.no.result c.in-Some.ensures.steps (sym c.begins_wq.ensures ∙ c.if-not-begins_wq.true) c.no.ensures
