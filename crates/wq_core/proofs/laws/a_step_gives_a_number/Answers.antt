use Rattle.wq_core.proofs.Numbers.{Gives-some}
use Rattle.wq_core.proofs.laws.a_step_gives_a_number.Goals as goal

pub returns : goal.returns
returns c = Gives-some
