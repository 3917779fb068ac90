use Rattle.std.proofs.Common.{◌-◌, length}
use Rattle.wq_levels.proofs.UnderWay.{IsNoted}
use Rattle.wq_levels.proofs.walk.walk_circle.Given as goal

abbrev pub invariant-walk : goal.invariant-walk
invariant-walk g l = IsNoted l.graph l.walked.items l.left.items l.vertex

abbrev pub decreases-walk : goal.decreases-walk
decreases-walk g l = length l.graph - length l.walked.items
