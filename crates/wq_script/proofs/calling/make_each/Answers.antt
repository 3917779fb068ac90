use Rattle.std.proofs.lemmas.Result.{err_from_is_err_and}
use Rattle.wq_script.proofs.Calls.{CountsActs-next, RefusedActs-at}
use Rattle.wq_script.proofs.calling.make_each.Goals as goal

pub returns-in_err-make-clause-refused : goal.returns-in_err-make-clause-refused
returns-in_err-make-clause-refused g c =
    let l = c.loop-act in
    let p = err_from_is_err_and c.from_residual.result c.from_residual.ensures.1 in
    rw (p.1, p.2)
    (RefusedActs-at g.N.Naming.wiring c.args.acts.now l.act-index c.act-item.result c.args.seat.now l.seat c.make.new.seat c.in_err-make.field-0.0
    c.loop-act-test.true c.act-item.is l.invariant c.in_err-make.ensures.refused)

pub returns-in_err-make-clause-calls : goal.returns-in_err-make-clause-calls
returns-in_err-make-clause-calls g c =
    let l = c.loop-act in
    let p = err_from_is_err_and c.from_residual.result c.from_residual.ensures.1 in
    rw (p.1, p.2)
    (RefusedActs-at g.N.Naming.wiring c.args.acts.now l.act-index c.act-item.result c.args.seat.now l.seat
    c.make.new.seat c.in_err-make.field-0.0
    c.loop-act-test.true c.act-item.is l.invariant c.in_err-make.ensures.refused)

pub loop-act-preserved : goal.loop-act-preserved
loop-act-preserved g c =
    let l = c.loop-act in
    CountsActs-next g.N.Naming.wiring c.args.acts.now l.act-index c.act-item.result c.args.seat.now l.seat c.make.new.seat
    c.loop-act-test.true c.act-item.is l.invariant c.in_ok-make.ensures.counted
