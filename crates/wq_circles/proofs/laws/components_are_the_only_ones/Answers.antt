use Rattle.wq_circles.proofs.Safe.{AreComponents-unique}
use Rattle.wq_circles.proofs.laws.components_are_the_only_ones.Goals as goal

pub returns : goal.returns
returns c = AreComponents-unique
