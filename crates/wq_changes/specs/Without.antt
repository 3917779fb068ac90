-- Workqueues without one of their changes.
use Rattle.std.specs.Prelude.{ℕ, ◌==◌, ◌||◌, if◌then◌else◌, Bool, false, length, map}
use Rattle.std.specs.List.{range_with_len}
use Rattle.wq_core.specs.Workqueues.{Workqueues}
use Rattle.wq_repair.specs.Changes.{lane_in}
use Rattle.wq_changes.specs.declared.change.Change.{Change}
use Rattle.wq_changes.specs.declared.change.Change.TheVariants as change
use Rattle.wq_changes.specs.Changes.{is_bare}

-- this change is that group g moved
abbrev pub moves : Change → ℕ → Bool
moves (change.Moved h) g = g == h
moves (change.Given q) g = false

-- this change is that lane p is given a rescuer
abbrev pub gives : Change → ℕ → Bool
gives (change.Moved h) p = false
gives (change.Given q) p = p == q

-- the lane of group g without this change: the old one if it is this group that moved
abbrev pub lane_without : Workqueues → Workqueues → Change → ℕ → ℕ
lane_without old new c g = if moves c g then lane_in old g else lane_in new g

-- lane p has no rescuer without this change
abbrev pub bare_without : Workqueues → Change → ℕ → Bool
bare_without new c p = gives c p || is_bare new p

-- the new workqueues without this change, but with all others
abbrev pub without_change : Workqueues → Workqueues → Change → Workqueues
without_change old new c = record {
  assignment = record {
    lanes = new.assignment.lanes;
    lane_of_group = map (lane_without old new c) (range_with_len 0 (length new.assignment.lane_of_group));
  };
  bare = map (bare_without new c) (range_with_len 0 new.assignment.lanes);
}
