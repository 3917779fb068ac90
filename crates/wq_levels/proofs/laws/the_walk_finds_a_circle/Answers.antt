use Rattle.wq_levels.proofs.Existence.{IsWalkedCircle-from_circle}
use Rattle.wq_levels.proofs.laws.the_walk_finds_a_circle.Goals as goal

pub returns : goal.returns
returns c = λ graph sound. IsWalkedCircle-from_circle graph sound
