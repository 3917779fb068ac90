use Rattle.std.proofs.Common.{[], map, rules}
use Rattle.wq_cert.specs.Lines.{cert_line}
use Rattle.wq_cert.proofs.NotedLemmas.{ReadSome-more, ReadSome-fault, ReadSome-short}
use Rattle.wq_cert.proofs.workqueue_reading.read_next_workqueues.Goals as goal

pub returns-in_default-clause-fault : goal.returns-in_default-clause-fault
returns-in_default-clause-fault g c =
    let q = c.loop-i.workqueues in
    ReadSome-short c.args.table.now.names c.args.groups.now c.args.count c.loop-i.i [] (map cert_line c.args.lines.now)
    q.count q.stood.items q.lane_of_group.items c.loop-i.lines c.loop-i.invariant c.loop-i-test.true (search rules)

pub returns-in_err-workqueues-2-clause-fault : goal.returns-in_err-workqueues-2-clause-fault
returns-in_err-workqueues-2-clause-fault g c =
    let q = c.loop-i.workqueues in
    let fault = ReadSome-fault c.args.table.now.names c.args.groups.now c.args.count c.loop-i.i []
    (map cert_line c.args.lines.now) q.count q.stood.items q.lane_of_group.items c.loop-i.lines c.loop-i.invariant
    c.in-Some.line c.next.new.self
    c.in_err-workqueues-2.field-0.0 c.loop-i-test.true c.in-Some.ensures.steps (c.in_err-workqueues-2.ensures.fault c.loop-i.invariant.workqueues c.loop-i.invariant.noted) in
    search (rules, fault)

pub loop-i-preserved : goal.loop-i-preserved
loop-i-preserved g c =
    let q = c.loop-i.workqueues in
    let more = c.in_ok-workqueues-2.workqueues in
    ReadSome-more c.args.table.now.names c.args.groups.now c.args.count c.loop-i.i [] (map cert_line c.args.lines.now)
    q.count q.stood.items q.lane_of_group.items c.loop-i.lines c.loop-i.invariant c.in-Some.line c.next.new.self
    more.count more.stood.items more.lane_of_group.items c.loop-i-test.true c.in-Some.ensures.steps (c.in_ok-workqueues-2.ensures.workqueues c.loop-i.invariant.workqueues c.loop-i.invariant.noted)
