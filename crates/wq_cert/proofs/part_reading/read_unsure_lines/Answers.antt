use Rattle.std.proofs.Common.{map, rules, ◌∙◌}
use Rattle.wq_cert.specs.Lines.{cert_line}
use Rattle.wq_cert.proofs.ReadParts.{PartRead-marks, PartRead-more, PartRead-fault, PartRead-short}
use Rattle.wq_cert.proofs.part_reading.read_unsure_lines.Goals as goal

pub returns-in_default-clause-fault : goal.returns-in_default-clause-fault
returns-in_default-clause-fault g c =
    PartRead-short c.args.table.now.names c.args.table.now.waits c.args.count c.loop-i.i
    (map cert_line c.args.lines.now) c.loop-i.places.items c.loop-i.marks.items c.loop-i.lines c.loop-i.invariant
    c.loop-i-test.true (search rules)

pub returns-in_err-place-clause-fault : goal.returns-in_err-place-clause-fault
returns-in_err-place-clause-fault g c =
    let t = c.args.table.now in
    let marks = PartRead-marks t.names t.waits c.args.count c.loop-i.i (map cert_line c.args.lines.now)
    c.loop-i.places.items c.loop-i.marks.items c.loop-i.lines c.loop-i.invariant in
    let fault = PartRead-fault t.names t.waits c.args.count c.loop-i.i (map cert_line c.args.lines.now)
    c.loop-i.places.items c.loop-i.marks.items c.loop-i.lines c.loop-i.invariant c.in-Some.line c.next.new.self
    c.in_err-place.field-0.0
    c.loop-i-test.true c.in-Some.ensures.steps
    (c.in_err-place.ensures.place c.loop-i.places.items (c.as_slice.ensures.value ∙ marks)) in
    search (rules, fault)

pub loop-i-preserved : goal.loop-i-preserved
loop-i-preserved g c =
    let t = c.args.table.now in
    let marks = PartRead-marks t.names t.waits c.args.count c.loop-i.i (map cert_line c.args.lines.now)
    c.loop-i.places.items c.loop-i.marks.items c.loop-i.lines c.loop-i.invariant in
    PartRead-more t.names t.waits c.args.count c.loop-i.i (map cert_line c.args.lines.now) c.loop-i.places.items
    c.loop-i.marks.items c.loop-i.lines c.loop-i.invariant c.in-Some.line c.next.new.self c.in_ok-place.place
    c.push.new.self.items
    c.loop-i-test.true c.in-Some.ensures.steps
    (c.in_ok-place.ensures.place c.loop-i.places.items (c.as_slice.ensures.value ∙ marks))
    (search (rules, c.in_ok-place.ensures.marked, c.as_slice.ensures.value)) c.in_ok-push.ensures.items
