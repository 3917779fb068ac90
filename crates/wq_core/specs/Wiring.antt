-- Wiring: all that the machine sees of a declaration and an assignment.
use Rattle.std.specs.Prelude.{◌≡◌, ℕ, ◌<◌, ◌≤◌, nat_lt, ◌==◌, ◌&&◌, Bool, true, false, if◌then◌else◌, List, [], length}
use Rattle.std.specs.Prelude.{map, slice_index, slice_index_or}
use Rattle.std.specs.List.{All, list_any, range_with_len, count_by}
use Rattle.wq_items.specs.declared.target.Target.{Target}
use Rattle.wq_items.specs.Table.{VertexWaits, TargetsBelow, targets_of, items_at}
use Rattle.wq_groups.specs.Declaration.{Declaration}
use Rattle.wq_groups.specs.Assignment.{Assignment, group_lane, item_lanes}

-- for each item in turn, the targets of its flushes and its lane; how many lanes there are, which of them run one item
-- at a time, and which are bare; and how many helpers each lane has that isn't ordered. The contexts of a lane are its
-- rescuer and its helpers. A bare lane has no rescuer: its first context is a worker, which may come and needn't
pub record Wiring : Type 0 where
  pub waits : List (List Target)
  pub lane_of_item : List ℕ
  pub lanes : ℕ
  pub ordered : List Bool
  pub bare : List Bool
  pub helpers : ℕ

-- how many helpers a lane may have
abbrev pub max_helpers : ℕ
max_helpers = 8

-- a group of two or more items is on lane q: the items have these groups, of which there are so many
abbrev pub is_ordered_lane : Assignment → List ℕ → ℕ → ℕ → Bool
is_ordered_lane a group_of groups q =
    list_any (λ g. (group_lane a g == q) && nat_lt 1 (length (items_at group_of g))) (range_with_len 0 groups)

-- each item on the lane of its group. A lane that holds a group of two or more items
-- is ordered. No lane is bare, and none has a helper yet
abbrev pub wiring : Declaration → Assignment → Wiring
wiring d a = record {
  waits = d.waits;
  lane_of_item = item_lanes a d.group_of;
  lanes = a.lanes;
  ordered = map (is_ordered_lane a d.group_of d.groups) (range_with_len 0 a.lanes);
  bare = [];
  helpers = 0;
}

-- the wiring with this many helpers for each lane that isn't ordered
abbrev pub with_helpers : Wiring → ℕ → Wiring
with_helpers w n = record w { helpers = n }

-- lane q has a rescuer: it isn't one of the bare lanes
abbrev pub HasRescuer : Wiring → ℕ → Type 0
HasRescuer w q = slice_index_or w.bare q false ≡ false

-- how many helpers lane q has; a lane that is ordered or doesn't exist has none
abbrev pub helpers_of : Wiring → ℕ → ℕ
helpers_of w q = if slice_index_or w.ordered q true then 0 else w.helpers

-- lane q has helper h; helpers are numbered from 1
abbrev pub HasHelper : Wiring → ℕ → ℕ → Type 0
HasHelper w q h = (0 < h) × (h ≤ helpers_of w q)

-- there is a lane q, and it has context c: its rescuer is 0, or on a bare lane a
-- worker, and its helpers are numbered from 1
abbrev pub HasContext : Wiring → ℕ → ℕ → Type 0
HasContext w q c = (q < w.lanes) × (c ≤ helpers_of w q)

-- the assignment in which each of this many groups has its own lane, with the group's number
abbrev pub own_lanes : ℕ → Assignment
own_lanes groups = record { lanes = groups; lane_of_group = range_with_len 0 groups }

-- how many items there are
abbrev pub items : Wiring → ℕ
items w = length w.waits

-- the lane of item i, if there is such an item
abbrev pub lane_of : Wiring → ℕ → ℕ
lane_of w i = slice_index w.lane_of_item i

-- how many items are on lane q, if these are the lanes of the items
abbrev pub count_on : List ℕ → ℕ → ℕ
count_on lane_of_item q = count_by (λ l. l == q) lane_of_item

-- the targets that item i declares, in order
abbrev pub declared_by : Wiring → ℕ → List Target
declared_by w i = targets_of w.waits i

-- one lane waits for another, or for itself: an item of the first declares a flush of an item of the second
abbrev pub LaneWaits : Wiring → ℕ → ℕ → Type 0
LaneWaits w = VertexWaits w.waits w.lane_of_item

-- the same for two lanes that have a rescuer
abbrev pub RescuedWaits : Wiring → ℕ → ℕ → Type 0
RescuedWaits w p q = HasRescuer w p × HasRescuer w q × LaneWaits w p q

-- what holds for every wiring: each item has a lane, which is one of the lanes; each
-- target is an item; and each lane is ordered or not
pub record IsWiring (w : Wiring) : Type 0 where
  pub one_lane_each : length w.lane_of_item ≡ items w
  pub within : All (λ l. l < w.lanes) w.lane_of_item
  pub targets_are_items : All (TargetsBelow (items w)) w.waits
  pub one_order_each : length w.ordered ≡ w.lanes
