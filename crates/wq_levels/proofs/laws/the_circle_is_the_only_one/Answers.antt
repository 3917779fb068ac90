use Rattle.wq_levels.proofs.OneCircle.{IsWalkedCircle-unique}
use Rattle.wq_levels.proofs.laws.the_circle_is_the_only_one.Goals as goal

pub returns : goal.returns
returns c = λ graph one other sound. IsWalkedCircle-unique graph sound one other
