use Rattle.std.proofs.Common.{arith}
use Rattle.wq_rescuer.proofs.Executions.{lane_served, rescuer_refused}
use Rattle.wq_rescuer.proofs.rescuing.rescue.Goals as goal

pub returns-clause-lane : goal.returns-clause-lane
returns-clause-lane g c = lane_served g.N.Naming.wiring c.args.q c.serve.result c.serve.ensures.context

pub returns-clause-why : goal.returns-clause-why
returns-clause-why g c = rescuer_refused g.N.Naming.wiring c.args.q c.serve.new.seat c.serve.result c.serve.ensures.why

pub returns-clause-cause : goal.returns-clause-cause
returns-clause-cause g c = λ there. c.serve.ensures.cause (there, omega arith)
