use Rattle.std.proofs.Common.{ℕ, ◌<◌, ◌⊎◌}
use Rattle.wq_repair.specs.Changes.{IsRescued}
use Rattle.wq_repair.specs.Marks.{IsMarked}
use Rattle.wq_repair.specs.Together.{AreListed}
use Rattle.wq_repair.proofs.placing.with_bare_of.Given as goal

abbrev pub invariant-loop-lane : goal.invariant-loop-lane
invariant-loop-lane g l = AreListed (λ (q : ℕ). IsMarked l.lanes q × ((q < l.lane) ⊎ IsRescued l.workqueues q)) l.listed.items
