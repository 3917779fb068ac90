-- The wiring of a declaration and an assignment.
use Rattle.std.proofs.Common.{◌≡◌, ℕ, ◌<◌, ◌⊎◌, inl, inr, Bool, false, List, [], length, get_or, sym, ap, subst, ◌∙◌, arith}
use Rattle.std.specs.List.{All, range_with_len}
use Rattle.std.proofs.lemmas.Bool.{cases_Bool, false≢true}
use Rattle.std.proofs.lemmas.List.{length-map}
use Rattle.std.proofs.lemmas.List.FromFn.{length-range_with_len}
use Rattle.wq_items.specs.Table.{TargetsBelow}
use Rattle.wq_groups.specs.Declaration.{Declaration, IsDeclaration}
use Rattle.wq_groups.specs.Assignment.{Assignment, IsAssignment, group_lane}
use Rattle.wq_groups.proofs.Lanes.{item_lanes-within}
use Rattle.wq_core.specs.Wiring.{Wiring, IsWiring, HasRescuer, wiring, with_helpers, is_ordered_lane, items, lane_of}
use Rattle.wq_core.specs.Workqueues.{with_bare}

-- the same for equal numbers and lists
pub All-below : (m n : ℕ) (xs ys zs : List ℕ) → n ≡ m → zs ≡ ys → ys ≡ xs → All (λ x. x < m) xs → All (λ x. x < n) zs
All-below m n xs ys zs bound read same h = subst (λ (k : ℕ). All (λ x. x < k) zs) (sym bound) (subst (All (λ x. x < m)) (sym (read ∙ same)) h)

-- a lane has a rescuer, or hasn't
pub cases_rescuer : (w : Wiring) (q : ℕ) → HasRescuer w q ⊎ (¬ HasRescuer w q)
cases_rescuer w q = elim (cases_Bool (get_or w.bare q false)) [
  | inl is_bare ↦ inr (λ rescuer. false≢true (sym rescuer ∙ is_bare))
  | inr rescuer ↦ inl rescuer
]

pub all_have : (w : Wiring) → w.bare ≡ [] → (q : ℕ) → HasRescuer w q
all_have w none q = ap (λ (bare : List Bool). get_or bare q false) none

pub IsWiring-wiring : (d : Declaration) (a : Assignment) → IsDeclaration d → IsAssignment d.groups a → IsWiring (wiring d a)
IsWiring-wiring d a declaration assignment = record {
  one_lane_each = length-map d.group_of (group_lane a) ∙ sym declaration.one_list_each;
  within = item_lanes-within d.group_of d.groups a declaration.partition.within assignment;
  targets_are_items = subst (λ n. All (TargetsBelow n) d.waits) (sym declaration.one_list_each) declaration.targets_are_items;
  one_order_each = length-map (range_with_len 0 a.lanes) (is_ordered_lane a d.group_of d.groups) ∙ length-range_with_len 0 a.lanes;
}

-- whichever lanes are bare
pub IsWiring-with_bare : (w : Wiring) (bare : List Bool) → IsWiring w → IsWiring (with_bare w bare)
IsWiring-with_bare w bare wiring =
    record { one_lane_each = wiring.one_lane_each; within = wiring.within; targets_are_items = wiring.targets_are_items; one_order_each = wiring.one_order_each }

-- whatever the number of helpers
pub IsWiring-with_helpers : (w : Wiring) (n : ℕ) → IsWiring w → IsWiring (with_helpers w n)
IsWiring-with_helpers w n wiring =
    record { one_lane_each = wiring.one_lane_each; within = wiring.within; targets_are_items = wiring.targets_are_items; one_order_each = wiring.one_order_each }

-- if there is an item, there is a lane
pub lanes-some : (group_of : List ℕ) (groups : ℕ) (a : Assignment) → All (λ g. g < groups) group_of → IsAssignment groups a → 0 < length group_of → 0 < a.lanes
lanes-some group_of groups a within assignment some =
    let group : get_or group_of 0 0 < groups = within 0 0 some in
    let lane : get_or a.lane_of_group 0 0 < a.lanes = assignment.within 0 0 (omega (arith, group, assignment.one_each)) in
    omega (arith, lane)

pub lane_of-within : (w : Wiring) → IsWiring w → (i : ℕ) → i < items w → lane_of w i < w.lanes
lane_of-within w wiring i within = wiring.within i 0 (omega (arith, within, wiring.one_lane_each))
