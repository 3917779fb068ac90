use Rattle.wq_history.proofs.Wakes.{enough-one}
use Rattle.wq_history.proofs.laws.whoever_can_go_on_is_woken.Goals as goal

pub returns : goal.returns
returns c old new wake condition enough becomes = enough-one old new wake enough condition becomes
