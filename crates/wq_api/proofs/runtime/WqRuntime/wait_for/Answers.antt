use Rattle.std.proofs.Common.{false}
use Rattle.wq_api.proofs.WaitsRefused.{rescuer_refused}
use Rattle.wq_api.proofs.runtime.WqRuntime.wait_for.Goals as goal

pub returns-clause-refused : goal.returns-clause-refused
returns-clause-refused g c =
    rescuer_refused g.N.Naming.wiring c.args.q c.args.seat.now c.wait_in.new.seat false c.args.target c.wait_in.result
    c.wait_in.ensures.refused
