use Rattle.wq_api.proofs.Contexts.{finish_done}
use Rattle.wq_api.proofs.runtime.WqRuntime.finish_in.Goals as goal

pub returns-in-Ok-clause-counted : goal.returns-in-Ok-clause-counted
returns-in-Ok-clause-counted g c =
    finish_done g.N.Naming.wiring g.N.Naming.rows c.args.seat.now c.written.new.seat c.args.context c.args.item _
    c.in-Ok.ensures
