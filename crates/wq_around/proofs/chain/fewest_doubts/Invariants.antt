use Rattle.std.proofs.Common.{false, take, slice_index_or}
use Rattle.std.specs.Prelude.{filter}
use Rattle.wq_plan.proofs.LeastOf.{IsLeastSoFar}
use Rattle.wq_around.specs.Down.{leads_on, doubts_by}
use Rattle.wq_around.proofs.chain.fewest_doubts.Given as goal

abbrev pub invariant-loop-arc : goal.invariant-loop-arc
invariant-loop-arc l =
    IsLeastSoFar (doubts_by (λ place. slice_index_or l.unsure place false) l.doubts)
    (filter (leads_on l.heights l.new l.lane) (take l.arc-index l.arcs)) l.fewest
