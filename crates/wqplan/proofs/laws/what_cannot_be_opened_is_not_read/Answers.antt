use Rattle.wq_meter.specs.Input.{HasFailed}
use Rattle.wqplan.proofs.CauseLemmas.{caused_file, caused_seed}
use Rattle.wqplan.proofs.laws.what_cannot_be_opened_is_not_read.Goals as goal

pub returns-clause-file : goal.returns-clause-file
returns-clause-file g c = λ world old new asked result caused.
    caused_file (g.O.World.seeds world) (g.O.World.opens world) (HasFailed old new) result asked caused

pub returns-clause-seed : goal.returns-clause-seed
returns-clause-seed g c = λ world old new asked result caused.
    caused_seed (g.O.World.seeds world) (g.O.World.opens world) (HasFailed old new) result asked caused
