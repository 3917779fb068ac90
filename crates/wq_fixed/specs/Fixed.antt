-- Workqueues that stay as they are, and which workqueues keep them.
use Rattle.std.specs.Prelude.{◌≡◌, ℕ, ◌+◌, ◌<◌, ◌≤◌, nat_le, Bool, true, false, List, [], ◌∷◌, length, Option, Some}
use Rattle.std.specs.Prelude.{None}
use Rattle.std.specs.Prelude.{slice_get, slice_index_or}
use Rattle.std.specs.List.{count_by}
use Rattle.wq_groups.specs.Assignment.{IsAssignment, group_lane, max_lanes}
use Rattle.wq_groups.specs.Declaration.{Declaration}
use Rattle.wq_core.specs.Workqueues.{Workqueues, wiring_of}
use Rattle.wq_core.specs.Deadlock.{IsSafe, Deadlocks}

-- for each group in turn the lane where it stays, if it has one; and for each of these lanes in turn whether it is bare
pub record Fixed : Type 0 where
  pub lane_of_group : List (Option ℕ)
  pub bare : List Bool

-- how many lanes there are
abbrev pub fixed_lanes : Fixed → ℕ
fixed_lanes f = length f.bare

-- group g stays on lane q
abbrev pub Stays : Fixed → ℕ → ℕ → Type 0
Stays f g q = slice_get f.lane_of_group g ≡ Some (Some q)

-- group g is free: it is on none of them
abbrev pub IsFree : Fixed → ℕ → Type 0
IsFree f g = slice_get f.lane_of_group g ≡ Some None

-- no lane is given
abbrev pub has_none : Option ℕ → Bool
has_none None = true
has_none (Some q) = false

-- how many groups are free
abbrev pub free_groups : Fixed → ℕ
free_groups f = count_by has_none f.lane_of_group

-- of this many groups each stays on one of the lanes or is free; and the lanes and the free groups are at most 4,096
pub record IsFixed (groups : ℕ) (f : Fixed) : Type 0 where
  pub one_each : length f.lane_of_group ≡ groups
  pub within : (g q : ℕ) → Stays f g q → q < fixed_lanes f
  pub few : fixed_lanes f + free_groups f ≤ max_lanes

-- workqueues that keep the fixed ones: those are the first of them, and the same are bare; no further one, a new one,
-- is bare; each group stays where it is; and each free one is on a new workqueue
pub record Keeps (f : Fixed) (ws : Workqueues) : Type 0 where
  pub lanes : fixed_lanes f ≤ ws.assignment.lanes
  pub bare : (q : ℕ) → q < ws.assignment.lanes → slice_index_or ws.bare q false ≡ slice_index_or f.bare q false
  pub stays : (g q : ℕ) → Stays f g q → group_lane ws.assignment g ≡ q
  pub new : (g : ℕ) → IsFree f g → fixed_lanes f ≤ group_lane ws.assignment g

-- workqueues of the declaration's groups, that keep the fixed ones, and of which no run ends stuck; and any that keep
-- them and are fewer deadlock
pub record IsLeastAround (d : Declaration) (f : Fixed) (ws : Workqueues) : Type 0 where
  pub assignment : IsAssignment d.groups ws.assignment
  pub keeps : Keeps f ws
  pub safe : IsSafe (wiring_of d ws)
  pub fewer : (others : Workqueues) → IsAssignment d.groups others.assignment → Keeps f others
      → others.assignment.lanes < ws.assignment.lanes → Deadlocks (wiring_of d others)

-- all workqueues that keep the fixed ones deadlock
abbrev pub AllDeadlock : Declaration → Fixed → Type 0
AllDeadlock d f =
    (others : Workqueues) → IsAssignment d.groups others.assignment → Keeps f others → Deadlocks (wiring_of d others)

-- ---- the start

-- the lanes of these groups, where each free one has a lane for itself: these are numbered from `next` on
abbrev pub start_lanes : ℕ → List (Option ℕ) → List ℕ
start_lanes next [] = []
start_lanes next (Some q ∷ lanes) = q ∷ start_lanes next lanes
start_lanes next (None ∷ lanes) = next ∷ start_lanes (next + 1) lanes

-- the start: each free group has a new workqueue for itself; they are numbered from the fixed ones on
abbrev pub start : Fixed → Workqueues
start f =
    record {
      assignment = record {
        lanes = fixed_lanes f + free_groups f;
        lane_of_group = start_lanes (fixed_lanes f) f.lane_of_group;
      };
      bare = f.bare;
    }

-- how many of these lanes are new
abbrev pub new_among : Fixed → List ℕ → ℕ
new_among f lanes = count_by (λ q. nat_le (fixed_lanes f) q) lanes
