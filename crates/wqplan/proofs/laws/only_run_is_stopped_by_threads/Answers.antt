use Rattle.wq_meter.specs.Input.{HasFailed}
use Rattle.wqplan.proofs.CauseLemmas.{only_run}
use Rattle.wqplan.proofs.laws.only_run_is_stopped_by_threads.Goals as goal

pub returns : goal.returns
returns g c = λ world old new asked result caused is.
    only_run (g.O.World.seeds world) (g.O.World.opens world) (HasFailed old new) result asked caused is
