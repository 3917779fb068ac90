use Rattle.std.proofs.Common.{[], ◌≤◌, take}
use Rattle.std.specs.List.{All}
use Rattle.wq_around.specs.Heights.{IsHeight}
use Rattle.wq_around.proofs.SoFar.{AreSoFar}
use Rattle.wq_around.proofs.heights.heights.Given as goal

abbrev pub invariant-loop-rank : goal.invariant-loop-rank
invariant-loop-rank g l =
    AreSoFar (IsHeight l.graph l.fixed) l.ranks l.rank [] l.heights.items × All (λ n. n ≤ 4096) l.heights.items

abbrev pub invariant-loop-lane : goal.invariant-loop-lane
invariant-loop-lane g l =
    AreSoFar (IsHeight l.graph l.fixed) l.ranks l.rank (take l.lane-index l.lane-items) l.heights.items
    × All (λ n. n ≤ 4096) l.heights.items
