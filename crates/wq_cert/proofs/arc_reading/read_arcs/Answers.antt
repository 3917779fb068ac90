use Rattle.std.proofs.Common.{map, rules}
use Rattle.wq_cert.specs.Lines.{cert_line}
use Rattle.wq_cert.specs.Reading.{arc_reading}
use Rattle.wq_cert.proofs.GrowthLemmas.{ReadTo-more}
use Rattle.wq_cert.proofs.ReadLemmas.{goes_on-fault, goes_on-short}
use Rattle.wq_cert.proofs.arc_reading.read_arcs.Goals as goal

pub returns-in_default-clause-fault : goal.returns-in_default-clause-fault
returns-in_default-clause-fault g c =
    goes_on-short (arc_reading c.args.table.now.names) c.args.count c.loop-i.i (map cert_line c.args.lines.now) c.loop-i.arcs.items c.loop-i.lines c.loop-i-test.true (search rules) c.loop-i.invariant.goes_on

pub returns-in_err-arc-clause-fault : goal.returns-in_err-arc-clause-fault
returns-in_err-arc-clause-fault g c =
    let fault = goes_on-fault (arc_reading c.args.table.now.names) c.args.count c.loop-i.i (map cert_line c.args.lines.now) c.loop-i.arcs.items c.loop-i.lines c.in-Some.line c.next.new.self c.in_err-arc.field-0.0 c.loop-i-test.true c.in-Some.ensures.steps c.in_err-arc.ensures c.loop-i.invariant.goes_on in
    search (rules, fault)

pub loop-i-preserved : goal.loop-i-preserved
loop-i-preserved g c =
    ReadTo-more (arc_reading c.args.table.now.names) c.args.count (map cert_line c.args.lines.now) c.loop-i.i c.loop-i.arcs.items c.loop-i.lines c.in-Some.line c.next.new.self c.in_ok-arc.arc c.loop-i-test.true c.in-Some.ensures.steps c.in_ok-arc.ensures c.loop-i.invariant c.push.new.self.items c.in_ok-push.ensures.items
