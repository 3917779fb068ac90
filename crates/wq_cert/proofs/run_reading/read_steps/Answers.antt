use Rattle.std.proofs.Common.{map, rules}
use Rattle.wq_cert.specs.Lines.{cert_line}
use Rattle.wq_cert.specs.Reading.{step_reading}
use Rattle.wq_cert.proofs.GrowthLemmas.{ReadTo-more, ReadsOne-next}
use Rattle.wq_cert.proofs.ReadLemmas.{goes_on-fault, goes_on-short}
use Rattle.wq_cert.proofs.run_reading.read_steps.Goals as goal

pub returns-in_default-clause-fault : goal.returns-in_default-clause-fault
returns-in_default-clause-fault g c =
    goes_on-short (step_reading c.args.table.now.names) c.args.count c.loop-i.i (map cert_line c.args.lines.now) c.loop-i.steps.items c.loop-i.lines c.loop-i-test.true (search rules) c.loop-i.invariant.goes_on

pub returns-in_err-step-clause-fault : goal.returns-in_err-step-clause-fault
returns-in_err-step-clause-fault g c =
    let fault = goes_on-fault (step_reading c.args.table.now.names) c.args.count c.loop-i.i (map cert_line c.args.lines.now) c.loop-i.steps.items c.loop-i.lines c.in-Some.line c.next.new.self c.in_err-step.field-0.0 c.loop-i-test.true c.in-Some.ensures.steps c.in_err-step.ensures c.loop-i.invariant.goes_on in
    search (rules, fault)

pub loop-i-preserved : goal.loop-i-preserved
loop-i-preserved g c =
    ReadTo-more (step_reading c.args.table.now.names) c.args.count (map cert_line c.args.lines.now) c.loop-i.i c.loop-i.steps.items c.loop-i.lines c.in-Some.line c.next.new.self c.in_ok-step.step c.loop-i-test.true c.in-Some.ensures.steps c.in_ok-step.ensures c.loop-i.invariant c.push.new.self.items c.in_ok-push.ensures.items

pub returns-in_err-push-clause-memory : goal.returns-in_err-push-clause-memory
returns-in_err-push-clause-memory g c =
    λ e. ReadsOne-next (step_reading c.args.table.now.names) c.args.count (map cert_line c.args.lines.now) c.loop-i.i c.loop-i.steps.items c.loop-i.lines c.in-Some.line c.next.new.self c.in_ok-step.step c.loop-i-test.true c.in-Some.ensures.steps c.in_ok-step.ensures c.loop-i.invariant
