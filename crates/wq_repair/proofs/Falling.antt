-- Numbers of lanes that fall along all waits of those that need a rescuer.
use Rattle.std.proofs.Common.{◌≡◌, ℕ, ◌<◌, Bool, List, length, sym, subst}
use Rattle.std.specs.Prelude.{slice_index}
use Rattle.wq_items.specs.Table.{ItemWaits}
use Rattle.wq_groups.specs.Declaration.{Declaration, IsDeclaration, GroupWaits}
use Rattle.wq_groups.specs.Assignment.{IsAssignment}
use Rattle.wq_groups.proofs.Declarations.{waiting-item, awaited-item, GroupWaits-items}
use Rattle.wq_groups.proofs.Lanes.{item_lanes-at}
use Rattle.wq_core.specs.Wiring.{HasRescuer, lane_of}
use Rattle.wq_core.specs.Workqueues.{Workqueues, wiring_of}
use Rattle.wq_core.specs.Deadlock.{IsSafe}
use Rattle.wq_core.proofs.Safety.{IsSafe-rescued}
use Rattle.wq_repair.specs.Changes.{IsRescued, lane_in}
use Rattle.wq_repair.specs.Joined.{FallsAlongWaits}
use Rattle.wq_repair.proofs.Rescuers.{waiting-below, awaited-below}

module _ (d : Declaration) (new : Workqueues) (needed : List Bool) (number : ℕ → ℕ) (declaration : IsDeclaration d) (assignment : IsAssignment d.groups new.assignment)
    (falls : FallsAlongWaits d new needed number) where
  abbrev group : ℕ → ℕ
  group i = slice_index d.group_of i

  lane-at : (i : ℕ) → i < length d.group_of → lane_of (wiring_of d new) i ≡ lane_in new (group i)
  lane-at i within = item_lanes-at new.assignment d.group_of i within

  group_falls : (g h : ℕ) → GroupWaits d g h → IsRescued new (lane_in new g) → IsRescued new (lane_in new h) × (number (lane_in new h) < number (lane_in new g))
  group_falls g h waits rescued =
      let needs = falls.only g (waiting-below d declaration g h waits) rescued in
      let also = falls.next g h waits needs in
      (falls.rescued h (awaited-below d declaration g h waits) also, falls.falls g h waits needs)

  item_falls : (i j : ℕ) → ItemWaits d.waits i j → HasRescuer (wiring_of d new) (lane_of (wiring_of d new) i)
      → HasRescuer (wiring_of d new) (lane_of (wiring_of d new) j) × (number (lane_of (wiring_of d new) j) < number (lane_of (wiring_of d new) i))
  item_falls i j waits rescuer =
      let src = lane-at i (waiting-item d declaration i j waits) in
      let dst = lane-at j (awaited-item d declaration i j waits) in
      let both = group_falls (group i) (group j) (GroupWaits-items d declaration i j waits) (subst (IsRescued new) src rescuer) in
      let lower : number (lane_of (wiring_of d new) j) < number (lane_in new (group i)) = subst (λ (q : ℕ). number q < number (lane_in new (group i))) (sym dst) both.1 in
      (subst (IsRescued new) (sym dst) both.0, subst (λ (q : ℕ). number (lane_of (wiring_of d new) j) < number q) (sym src) lower)

  pub IsSafe-falling : IsSafe (wiring_of d new)
  IsSafe-falling = IsSafe-rescued (wiring_of d new) number item_falls
