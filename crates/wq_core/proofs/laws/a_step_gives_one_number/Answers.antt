use Rattle.wq_core.proofs.Numbers.{Gives-one_after}
use Rattle.wq_core.proofs.laws.a_step_gives_one_number.Goals as goal

pub returns : goal.returns
returns c = Gives-one_after
