use Rattle.wq_api.proofs.Contexts.{next_started}
use Rattle.wq_api.proofs.runtime.WqRuntime.next_in.Goals as goal

pub returns-clause-started : goal.returns-clause-started
returns-clause-started g c =
    next_started g.N.Naming.wiring g.N.Naming.rows c.args.context c.start.result c.start.ensures
