use Rattle.wq_core.proofs.Safety.{not_stuck}
use Rattle.wq_core.proofs.Wirings.{all_have}
use Rattle.wq_core.proofs.laws.at_rest_nothing_is_unfinished.Goals as goal

pub returns-clause-all_rescued : goal.returns-clause-all_rescued
returns-clause-all_rescued c = λ w steps none few safe run rest left. not_stuck w steps few safe run (record { left = left; rescuer = all_have w none left.lane; no_step = rest })

pub returns-clause-rescued : goal.returns-clause-rescued
returns-clause-rescued c = λ w steps left few safe run rest rescuer. not_stuck w steps few safe run (record { left = left; rescuer = rescuer; no_step = rest })
