use Rattle.std.proofs.Common.{ℕ, ◌<◌}
use Rattle.wq_repair.specs.Changes.{IsRescued}
use Rattle.wq_repair.specs.Marks.{IsMarked}
use Rattle.wq_repair.specs.Together.{AreListed}
use Rattle.wq_repair.proofs.placing.rescued_of.Given as goal

abbrev pub invariant-loop-lane : goal.invariant-loop-lane
invariant-loop-lane g l = AreListed (λ (q : ℕ). (q < l.lane) × (IsMarked l.lanes q × IsRescued l.workqueues q)) l.listed.items
