-- What a declaration's chains and circles of groups say about its assignments.
use Rattle.std.proofs.Common.{◌≡◌, ℕ, ◌<◌, List, length, refl, arith}
use Rattle.std.specs.Prelude.{slice_index}
use Rattle.std.specs.List.{All}
use Rattle.wq_items.specs.Table.{ItemWaits}
use Rattle.wq_items.specs.Chain.{IsChain, Circle}
use Rattle.wq_groups.specs.Declaration.{Declaration, IsDeclaration, GroupWaits}
use Rattle.wq_groups.specs.Assignment.{Assignment, IsAssignment, group_lane, item_lane}
use Rattle.wq_groups.proofs.Declarations.{waiting-item, awaited-item, GroupWaits-items}
use Rattle.wq_groups.proofs.Lanes.{item_lanes-at}
use Rattle.wq_core.specs.Wiring.{wiring, lane_of}
use Rattle.wq_core.specs.Deadlock.{IsSafe, Deadlocks, IsLeast}
use Rattle.wq_core.proofs.CircleKnots.{Deadlocks-circle}
use Rattle.wq_core.proofs.LaneCircles.{Circle-lanes, Circle-few_lanes}
use Rattle.wq_core.proofs.Safety.{IsSafe-falls}
use Rattle.wq_core.proofs.Wirings.{IsWiring-wiring}

module _ (d : Declaration) (a : Assignment) (declaration : IsDeclaration d) (assignment : IsAssignment d.groups a) where
  falls : ((g h : ℕ) → GroupWaits d g h → group_lane a h < group_lane a g) → (i j : ℕ) → ItemWaits d.waits i j
      → lane_of (wiring d a) j < lane_of (wiring d a) i
  falls groups_fall i j declares =
      let lower : item_lane a d.group_of j < item_lane a d.group_of i =
      groups_fall (slice_index d.group_of i) (slice_index d.group_of j) (GroupWaits-items d declaration i j declares) in
      omega (arith, item_lanes-at a d.group_of i (waiting-item d declaration i j declares), item_lanes-at a d.group_of j (awaited-item d declaration i j declares), lower)

  IsSafe-groups : ((g h : ℕ) → GroupWaits d g h → group_lane a h < group_lane a g) → IsSafe (wiring d a)
  IsSafe-groups groups_fall = IsSafe-falls (wiring d a) (λ q. q) refl (falls groups_fall)

  Deadlocks-groups : Circle (GroupWaits d) → Deadlocks (wiring d a)
  Deadlocks-groups circle = Deadlocks-circle (wiring d a) (IsWiring-wiring d a declaration assignment) refl (Circle-lanes d a circle)

  Deadlocks-few_lanes : (groups : List ℕ) → IsChain (GroupWaits d) groups → All (λ g. g < d.groups) groups → a.lanes < length groups → Deadlocks (wiring d a)
  Deadlocks-few_lanes groups chain below few =
      Deadlocks-circle (wiring d a) (IsWiring-wiring d a declaration assignment) refl (Circle-few_lanes d a groups assignment chain below few)

pub Deadlocks-circle_of_groups : (d : Declaration) (a : Assignment) → IsDeclaration d → IsAssignment d.groups a → Circle (GroupWaits d) → Deadlocks (wiring d a)
Deadlocks-circle_of_groups d a declaration assignment circle = Deadlocks-groups d a declaration assignment circle

pub IsLeast-chain : (d : Declaration) (a : Assignment) (groups : List ℕ) → IsDeclaration d → IsAssignment d.groups a
    → ((g h : ℕ) → GroupWaits d g h → group_lane a h < group_lane a g)
    → IsChain (GroupWaits d) groups → All (λ g. g < d.groups) groups → length groups ≡ a.lanes → IsLeast d a
IsLeast-chain d a groups declaration assignment groups_fall chain below as_long = record {
  assignment = assignment;
  safe = IsSafe-groups d a declaration assignment groups_fall;
  fewer = λ b other fewer. Deadlocks-few_lanes d b declaration other groups chain below (omega (arith, as_long, fewer));
}
