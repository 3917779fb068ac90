use Rattle.wq_hang.proofs.Fewest.{cost_of_reading}
use Rattle.wq_hang.proofs.laws.a_stuck_run_of_a_reading_has_a_walk.Goals as goal

pub returns : goal.returns
returns c = cost_of_reading
