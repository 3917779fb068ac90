-- The plan that heights of the start make: which workqueue each group gets.
use Rattle.std.specs.Prelude.{ℕ, ◌+◌, ◌-◌, nat_lt, if◌then◌else◌, List, map, slice_index}
use Rattle.wq_core.specs.Workqueues.{Workqueues}
use Rattle.wq_fixed.specs.Fixed.{Fixed, fixed_lanes, start}

-- the lane of a group that is on lane q in the start, where lanes from `new` on are new: a fixed one stays, and in
-- place of a new one of height n there is the nth new one
abbrev pub planned_lane : List ℕ → ℕ → ℕ → ℕ
planned_lane heights new q = if nat_lt q new then q else new + slice_index heights q - 1

-- the fixed workqueues, and this many new ones
abbrev pub planned : Fixed → List ℕ → ℕ → Workqueues
planned f heights most =
    record {
      assignment = record {
        lanes = fixed_lanes f + most;
        lane_of_group = map (planned_lane heights (fixed_lanes f)) (start f).assignment.lane_of_group;
      };
      bare = f.bare;
    }
