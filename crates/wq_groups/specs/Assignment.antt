-- Assignments: which workqueue serves each group.
use Rattle.std.specs.Prelude.{◌≡◌, ℕ, ◌<◌, ◌≤◌, List, length, map, slice_index}
use Rattle.std.specs.List.{All}

-- an assignment puts each group on a lane, which is a workqueue: how many lanes there are, and for each group in turn
-- the number of its lane. A lane may serve no group
pub record Assignment : Type 0 where
  pub lanes : ℕ
  pub lane_of_group : List ℕ

-- how many lanes there may be
abbrev pub max_lanes : ℕ
max_lanes = 4096

-- one lane for each group, and each is one of the lanes
pub record IsAssignment (groups : ℕ) (a : Assignment) : Type 0 where
  pub one_each : length a.lane_of_group ≡ groups
  pub within : All (λ l. l < a.lanes) a.lane_of_group

-- an assignment of this many groups to at most 4,096 workqueues
pub record IsAssignmentOf (groups : ℕ) (a : Assignment) : Type 0 where
  pub assignment : IsAssignment groups a
  pub few : a.lanes ≤ max_lanes

-- the lane of group g
abbrev pub group_lane : Assignment → ℕ → ℕ
group_lane a g = slice_index a.lane_of_group g

-- the lane of item i: the lane of its group
abbrev pub item_lane : Assignment → List ℕ → ℕ → ℕ
item_lane a group_of i = group_lane a (slice_index group_of i)

-- the lane of each item in turn
abbrev pub item_lanes : Assignment → List ℕ → List ℕ
item_lanes a group_of = map (group_lane a) group_of
