-- Lanes that fall from each group to those that it waits for let no run end stuck.
use Rattle.std.proofs.Common.{refl, ℕ, ◌<◌, arith}
use Rattle.std.specs.Prelude.{slice_index}
use Rattle.wq_groups.specs.Declaration.{Declaration, GroupWaits, IsDeclaration}
use Rattle.wq_groups.specs.Assignment.{Assignment, group_lane}
use Rattle.wq_groups.proofs.Declarations.{waiting-item, awaited-item, GroupWaits-items}
use Rattle.wq_groups.proofs.Lanes.{item_lanes-at}
use Rattle.wq_core.specs.Wiring.{wiring}
use Rattle.wq_core.specs.Deadlock.{IsSafe}
use Rattle.wq_core.proofs.Safety.{IsSafe-falls}

module _ (d : Declaration) (is : IsDeclaration d) where
  pub IsSafe-lanes_fall : (a : Assignment) → ((g h : ℕ) → g < d.groups → GroupWaits d g h → group_lane a h < group_lane a g) → IsSafe (wiring d a)
  IsSafe-lanes_fall a falls =
      IsSafe-falls (wiring d a) (λ q. q) refl (λ i j declared.
      let item = item_lanes-at a d.group_of i (waiting-item d is i j declared) in
      let target = item_lanes-at a d.group_of j (awaited-item d is i j declared) in
      let below = falls (slice_index d.group_of i) (slice_index d.group_of j) (is.partition.within i 0 (waiting-item d is i j declared)) (GroupWaits-items d is i j declared) in
      omega (arith, item, target, below)
      )
