-- Workqueues as a text says them: of each it is said whether it has a rescuer.
use Rattle.std.specs.Prelude.{ℕ, false, map, slice_index_or}
use Rattle.std.specs.List.{range_with_len}
use Rattle.wq_core.specs.Workqueues.{Workqueues}

-- the same workqueues, with a list of exactly one mark for each: whether it is bare
abbrev pub with_each : Workqueues → Workqueues
with_each ws = record {
  assignment = ws.assignment;
  bare = map (λ (q : ℕ). slice_index_or ws.bare q false) (range_with_len 0 ws.assignment.lanes);
}
