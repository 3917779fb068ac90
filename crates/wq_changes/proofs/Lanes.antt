-- Lanes of workqueues without one change.
use Rattle.std.proofs.Common.{◌≡◌, ℕ, ◌<◌, ◌≤◌, Bool, true, false, List, length, map, get_or, sym, ap, ◌∙◌, arith}
use Rattle.std.specs.Prelude.{if◌then◌else◌}
use Rattle.std.specs.List.{All, range_with_len}
use Rattle.std.proofs.lemmas.List.Elements.{All-map}
use Rattle.wq_items.proofs.Lists.{range_with_len-below}
use Rattle.wq_groups.specs.Assignment.{Assignment}
use Rattle.wq_core.specs.Workqueues.{Workqueues}
use Rattle.wq_repair.specs.Changes.{lane_in}
use Rattle.wq_changes.specs.declared.change.Change.{Change}
use Rattle.wq_changes.specs.Without.{bare_without, lane_without, moves, without_change}

one_of : (b : Bool) (p q n : ℕ) → p < n → q < n → (if b then p else q) < n
one_of true p q n one other = one
one_of false p q n one other = other

module _ (old new : Workqueues) (groups : ℕ)
    (old_each : length old.assignment.lane_of_group ≡ groups) (new_each : length new.assignment.lane_of_group ≡ groups)
    (more : old.assignment.lanes ≤ new.assignment.lanes)
    (old_within : All (λ l. l < old.assignment.lanes) old.assignment.lane_of_group)
    (new_within : All (λ l. l < new.assignment.lanes) new.assignment.lane_of_group) where
  new-within : (g : ℕ) → g < groups → lane_in new g < new.assignment.lanes
  new-within g is = new_within g 0 (omega (arith, is, new_each))

  old-within : (g : ℕ) → g < groups → lane_in old g < new.assignment.lanes
  old-within g is = omega (arith, old_within g 0 (omega (arith, is, old_each)), more)

  lane-within : (c : Change) (g : ℕ) → g < groups → lane_without old new c g < new.assignment.lanes
  lane-within c g is = one_of (moves c g) (lane_in old g) (lane_in new g) new.assignment.lanes (old-within g is) (new-within g is)

  -- each is one of the new lanes
  pub lanes-within : (c : Change) → All (λ l. l < new.assignment.lanes) (map (lane_without old new c) (range_with_len 0 groups))
  lanes-within c =
      All-map (λ l. l < new.assignment.lanes) (lane_without old new c) (range_with_len 0 groups)
      (λ k d is. lane-within c (get_or (range_with_len 0 groups) k d) (range_with_len-below groups k d is))
