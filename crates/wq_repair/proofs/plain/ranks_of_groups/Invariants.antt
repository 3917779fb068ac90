use Rattle.std.proofs.Common.{◌≡◌, ◌<◌, ℕ, length}
use Rattle.std.specs.Prelude.{slice_index}
use Rattle.wq_repair.proofs.plain.ranks_of_groups.Given as goal

-- the ranks of the groups so far
abbrev pub invariant-loop-group : goal.invariant-loop-group
invariant-loop-group g l = record {
  one_each : length l.of_group.items ≡ l.group;
  ranks : (h : ℕ) → h < l.group → slice_index l.of_group.items h ≡ slice_index l.ranks (slice_index l.vertices.lane_of_group h);
}
