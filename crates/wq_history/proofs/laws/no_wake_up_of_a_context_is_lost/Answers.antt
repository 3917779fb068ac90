use Rattle.wq_history.proofs.Crews.{stays-covered}
use Rattle.wq_history.proofs.laws.no_wake_up_of_a_context_is_lost.Goals as goal

pub returns : goal.returns
returns c = stays-covered
