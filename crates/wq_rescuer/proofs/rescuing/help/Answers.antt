use Rattle.std.proofs.Common.{◌<◌, arith}
use Rattle.wq_rescuer.proofs.Executions.{helper_served, helper_refused, nothing_else, stopped_at_once}
use Rattle.wq_rescuer.proofs.rescuing.help.Goals as goal

pub returns-then-h-eq0-clause-own : goal.returns-then-h-eq0-clause-own
returns-then-h-eq0-clause-own g c = nothing_else g.N.Naming.wiring c.args.q (g.B.Body.runs c.args.body.now) c.requires.never_ran

pub returns-clause-helper : goal.returns-clause-helper
returns-clause-helper g c =
    let some : 0 < c.args.h = omega (arith, c.if-h-eq0.false) in
    helper_served g.N.Naming.wiring c.args.q c.args.h c.serve.result some c.serve.ensures.context

pub returns-clause-why : goal.returns-clause-why
returns-clause-why g c =
    let some : 0 < c.args.h = omega (arith, c.if-h-eq0.false) in
    helper_refused g.N.Naming.wiring c.args.q c.args.h c.serve.new.seat c.serve.result some c.serve.ensures.why

pub returns-then-h-eq0-clause-cause : goal.returns-then-h-eq0-clause-cause
returns-then-h-eq0-clause-cause g c = λ there. absurd (omega (arith, there.0, c.if-h-eq0.true))

pub returns-clause-cause : goal.returns-clause-cause
returns-clause-cause g c = λ there. c.serve.ensures.cause there.1

pub returns-then-h-eq0-clause-stopped : goal.returns-then-h-eq0-clause-stopped
returns-then-h-eq0-clause-stopped g c = stopped_at_once (g.B.Body.may g.N.Naming.wiring c.args.body.now) c.args.seat.now
