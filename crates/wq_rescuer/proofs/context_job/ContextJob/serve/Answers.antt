use Rattle.std.proofs.Common.{◌*◌}
use Rattle.wq_counts.specs.Counting.{counts_each}
use Rattle.wq_held.specs.Locked.{slots}
use Rattle.wq_rescuer.specs.Executing.{no_counts}
use Rattle.wq_rescuer.proofs.Executions.{executes, has_ceased}
use Rattle.wq_rescuer.proofs.Handovers.{is_served}
use Rattle.wq_rescuer.proofs.context_job.ContextJob.serve.Goals as goal

pub invariant_of-result : goal.invariant_of-result
invariant_of-result g c =
    let did = c.serve-rescued.ensures in
    record {
      served = is_served g.N.Naming.wiring c.args.self.context (counts_each * slots g.N.Naming.wiring) c.args.self.seat
          c.serve-rescued.new.seat (g.B.Body.runs c.serve-rescued.new.body) c.serve-rescued.result
          c.args.self.fresh did.own did.ran did.finished did.faults did.why did.refused;
    }

pub returns-clause-executed : goal.returns-clause-executed
returns-clause-executed g c =
    executes (g.B.Body.may g.N.Naming.wiring c.args.self.body)
    (no_counts g.N.Naming.wiring) c.args.self.seat c.serve-rescued.new.seat c.serve-rescued.result
    c.args.self.fresh c.serve-rescued.ensures.executed c.serve-rescued.ensures.stopped

pub returns-clause-ceased : goal.returns-clause-ceased
returns-clause-ceased g c =
    let context = c.args.self.context in
    has_ceased g.N.Naming.wiring g.N.Naming.rows context.lane context.number
    (g.B.Body.may g.N.Naming.wiring c.args.self.body) (no_counts g.N.Naming.wiring) c.args.self.seat
    c.serve-rescued.new.seat c.serve-rescued.result c.args.self.fresh c.serve-rescued.ensures.ended
    c.serve-rescued.ensures.cause
