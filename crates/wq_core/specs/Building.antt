-- Making a machine: what it holds before anything is queued.
use Rattle.std.specs.Prelude.{ℕ, List, false, if◌then◌else◌}
use Rattle.wq_groups.specs.Declaration.{Declaration}
use Rattle.wq_groups.specs.Partition.{Partition}
use Rattle.wq_groups.specs.Assignment.{Assignment}
use Rattle.wq_core.specs.Wiring.{wiring, with_helpers, count_on, is_ordered_lane}
use Rattle.wq_core.specs.Workqueues.{Workqueues, wiring_of}
use Rattle.wq_core.specs.declared.lane.LaneShape.{LaneShape}
use Rattle.wq_core.specs.State.{idle_lane, empty_state}
use Rattle.wq_core.specs.Held.{HeldLane, Machine}

-- a lane with as many items as are on lane q, if these are the lanes of the items; it isn't ordered
abbrev pub counted_shape : List ℕ → ℕ → LaneShape
counted_shape lane_of_item q = record { items = count_on lane_of_item q; ordered = false }

-- the shape of lane q: how many items are on it, and whether it holds a group of two or more
abbrev pub shape_of : Assignment → Partition → List ℕ → ℕ → LaneShape
shape_of a p lane_of_item q =
    record { items = count_on lane_of_item q; ordered = is_ordered_lane a p.group_of p.groups q }

-- an idle lane of this shape: with room for all its items, and with this many helpers unless it is ordered
abbrev pub idle_of_shape : ℕ → LaneShape → HeldLane
idle_of_shape helpers shape = record {
  lane = idle_lane;
  room = shape.items;
  ordered = shape.ordered;
  helpers = if shape.ordered then 0 else helpers;
}

-- the machine of a declaration and its workqueues with this many helpers, before anything is queued
abbrev pub first_machine_on : Declaration → Workqueues → ℕ → Machine
first_machine_on d ws helpers =
    record { wiring = with_helpers (wiring_of d ws) helpers; state = empty_state (wiring d ws.assignment) }

-- the machine of a declaration and an assignment with this many helpers, before anything is queued
abbrev pub first_machine_with : Declaration → Assignment → ℕ → Machine
first_machine_with d a helpers = record { wiring = with_helpers (wiring d a) helpers; state = empty_state (wiring d a) }

-- the machine without helpers
abbrev pub first_machine : Declaration → Assignment → Machine
first_machine d a = record { wiring = wiring d a; state = empty_state (wiring d a) }
