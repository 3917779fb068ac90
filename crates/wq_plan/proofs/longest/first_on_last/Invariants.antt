use Rattle.std.proofs.Common.{◌+◌, ◌==◌, slice_index}
use Rattle.std.specs.Prelude.{filter}
use Rattle.std.specs.List.{range_with_len}
use Rattle.wq_plan.proofs.LeastOf.{IsFirstSoFar}
use Rattle.wq_plan.proofs.longest.first_on_last.Given as goal

abbrev pub invariant-loop-vertex : goal.invariant-loop-vertex
invariant-loop-vertex l =
    IsFirstSoFar (slice_index l.doubts) 65535 (filter (λ v. slice_index l.lane v + 1 == l.lanes)
    (range_with_len 0 l.vertex)) l.first l.fewest
