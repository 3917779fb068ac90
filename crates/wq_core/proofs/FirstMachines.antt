-- The machine of a declaration and an assignment, before anything is queued, and how it is held.
use Rattle.std.proofs.Common.{◌≡◌, ℕ, ◌<◌, ◌≤◌, Bool, true, List, [], ◌∷◌, length, map, get_or, replicate, Option, Some, None, refl, sym, ap, subst, ◌∙◌, arith}
use Rattle.std.specs.Prelude.{slice_get, option_map, if◌then◌else◌}
use Rattle.std.specs.List.{range_with_len}
use Rattle.std.proofs.lemmas.List.{length-map, get_or-map}
use Rattle.std.proofs.lemmas.List.FromFn.{length-range_with_len, get_or-range_with_len}
use Rattle.std.proofs.lemmas.Option.{get_or_from_slice_get, slice_get_within, slice_get-map}
use Rattle.wq_items.specs.declared.target.Target.{Target}
use Rattle.wq_groups.specs.Declaration.{Declaration, IsDeclaration}
use Rattle.wq_groups.specs.Partition.{Partition}
use Rattle.wq_groups.specs.Assignment.{Assignment, IsAssignment, item_lanes}
use Rattle.wq_core.specs.declared.lane.LaneShape.{LaneShape}
use Rattle.wq_core.specs.Wiring.{wiring, with_helpers, max_helpers, helpers_of, items, count_on, is_ordered_lane}
use Rattle.wq_core.specs.Workqueues.{with_bare}
use Rattle.wq_core.specs.State.{Lane, idle_lane, lane_at, empty_state}
use Rattle.wq_core.specs.Held.{HeldLane, Machine, IsMachine, IsHeld, IsNumbering, IsRising, HasRoom, machine_of}
use Rattle.wq_core.specs.Building.{shape_of, idle_of_shape, first_machine_on}
use Rattle.wq_core.proofs.LaneLemmas.{lane_at-empty_state}
use Rattle.wq_core.proofs.Numbered.{IsNumbering-empty}
use Rattle.wq_core.proofs.Rising.{IsRising-nil}
use Rattle.wq_core.proofs.Sound.{IsSoundState-empty}
use Rattle.wq_core.proofs.Wirings.{IsWiring-wiring, IsWiring-with_bare, IsWiring-with_helpers}

-- the machine, whichever lanes are bare
abbrev pub first_machine_bare : Declaration → Assignment → List Bool → ℕ → Machine
first_machine_bare d a bare helpers = first_machine_on d (record { assignment = a; bare = bare }) helpers

pub IsMachine-first_machine : (d : Declaration) (a : Assignment) (bare : List Bool) (helpers : ℕ) → IsDeclaration d → IsAssignment d.groups a → a.lanes ≤ 4096 → helpers ≤ max_helpers → IsMachine (first_machine_bare d a bare helpers)
IsMachine-first_machine d a bare helpers declaration assignment few few_helpers = record {
  wiring = IsWiring-with_helpers (with_bare (wiring d a) bare) helpers (IsWiring-with_bare (wiring d a) bare (IsWiring-wiring d a declaration assignment));
  state = IsSoundState-empty (with_helpers (with_bare (wiring d a) bare) helpers);
  few_items = omega (arith, declaration.one_list_each, declaration.partition.few_items);
  few_flushes = declaration.few_flushes;
  few_lanes = few;
  few_helpers = few_helpers;
  numbers = omega arith;
}

-- ---- lanes of a shape

lanes-idle : (helpers : ℕ) (shapes : List LaneShape) → map (λ (h : HeldLane). h.lane) (map (idle_of_shape helpers) shapes) ≡ replicate (length shapes) idle_lane
lanes-idle helpers [] = refl
lanes-idle helpers (shape ∷ shapes) = ap (λ (lanes : List Lane). idle_lane ∷ lanes) (lanes-idle helpers shapes)

lanes-ordered : (helpers : ℕ) (shapes : List LaneShape) → map (λ (h : HeldLane). h.ordered) (map (idle_of_shape helpers) shapes) ≡ map (λ (s : LaneShape). s.ordered) shapes
lanes-ordered helpers [] = refl
lanes-ordered helpers (shape ∷ shapes) = ap (λ (bs : List Bool). shape.ordered ∷ bs) (lanes-ordered helpers shapes)

shapes-ordered : (a : Assignment) (p : Partition) (lane_of_item qs : List ℕ) → map (λ (s : LaneShape). s.ordered) (map (shape_of a p lane_of_item) qs) ≡ map (is_ordered_lane a p.group_of p.groups) qs
shapes-ordered a p lane_of_item [] = refl
shapes-ordered a p lane_of_item (q ∷ qs) = ap (λ (bs : List Bool). is_ordered_lane a p.group_of p.groups q ∷ bs) (shapes-ordered a p lane_of_item qs)

option_mapped : {X Y : Type 0} (f : X → Y) (o : Option X) (y : Y) → option_map f o ≡ Some y → (x : X) × (o ≡ Some x) × (f x ≡ y)
option_mapped f None y is = absurd cc
option_mapped f (Some x) y is = (x, refl, cc)

-- an element of a list that a function makes
made-from : {X Y : Type 0} (f : X → Y) (xs : List X) (ys : List Y) (k : ℕ) (y : Y) → ys ≡ map f xs → slice_get ys k ≡ Some y → (x : X) × (slice_get xs k ≡ Some x) × (f x ≡ y)
made-from {X} {Y} f xs ys k y made there =
    option_mapped f (slice_get xs k) y (sym (slice_get-map f xs k) ∙ ap (λ (l : List Y). slice_get l k) (sym made) ∙ there)

numbered-same : (n k q : ℕ) → slice_get (range_with_len 0 n) k ≡ Some q → q ≡ k
numbered-same n k q there =
    let within : k < length (range_with_len 0 n) = slice_get_within (range_with_len 0 n) k q there in
    omega (arith, within, length-range_with_len 0 n, get_or-range_with_len 0 n k 0 (omega (arith, within, length-range_with_len 0 n)), get_or_from_slice_get (range_with_len 0 n) k q 0 there)

-- ---- how the machine is held

module _ (d : Declaration) (a : Assignment) (waits : List (List Target)) (lane_of_item : List ℕ) (bare : List Bool) (helpers : ℕ) (shapes : List LaneShape) (lanes : List HeldLane)
    (same_waits : waits ≡ d.waits) (same_lanes : lane_of_item ≡ item_lanes a d.group_of)
    (shaped : shapes ≡ map (shape_of a (record { group_of = d.group_of; groups = d.groups }) lane_of_item) (range_with_len 0 a.lanes))
    (idle : lanes ≡ map (idle_of_shape helpers) shapes) where
  abbrev groups : Partition
  groups = record { group_of = d.group_of; groups = d.groups }

  one_shape_each : length shapes ≡ a.lanes
  one_shape_each = ap length shaped ∙ length-map (range_with_len 0 a.lanes) (shape_of a groups lane_of_item) ∙ length-range_with_len 0 a.lanes

  one_lane_each : length lanes ≡ a.lanes
  one_lane_each = ap length idle ∙ length-map shapes (idle_of_shape helpers) ∙ one_shape_each

  idle_lanes : map (λ (h : HeldLane). h.lane) lanes ≡ replicate a.lanes idle_lane
  idle_lanes = ap (map (λ (h : HeldLane). h.lane)) idle ∙ lanes-idle helpers shapes ∙ ap (λ (n : ℕ). replicate n idle_lane) one_shape_each

  ordered_lanes : map (λ (h : HeldLane). h.ordered) lanes ≡ map (is_ordered_lane a d.group_of d.groups) (range_with_len 0 a.lanes)
  ordered_lanes =
      ap (map (λ (h : HeldLane). h.ordered)) idle ∙ lanes-ordered helpers shapes
      ∙ ap (map (λ (s : LaneShape). s.ordered)) shaped ∙ shapes-ordered a groups lane_of_item (range_with_len 0 a.lanes)

  pub machine_of-first : machine_of waits lane_of_item bare helpers lanes 0 ≡ first_machine_bare d a bare helpers
  machine_of-first = λ t. record {
    wiring = record { waits = same_waits t; lane_of_item = same_lanes t; lanes = one_lane_each t; ordered = ordered_lanes t; bare = bare; helpers = helpers };
    state = record { next = 0; lanes = idle_lanes t };
  }

  has_room : (q : ℕ) (h : HeldLane) → slice_get lanes q ≡ Some h → HasRoom lane_of_item q h
  has_room q h there =
      let (shape, at, is) = made-from (idle_of_shape helpers) shapes lanes q h idle there in
      let (p, numbered, counted) = made-from (shape_of a groups lane_of_item) (range_with_len 0 a.lanes) shapes q shape shaped at in
      let room : shape.items ≡ h.room = ap (λ (l : HeldLane). l.room) is in
      let count : count_on lane_of_item p ≡ shape.items = ap (λ (s : LaneShape). s.items) counted in
      let same : count_on lane_of_item p ≡ count_on lane_of_item q = ap (count_on lane_of_item) (numbered-same a.lanes q p numbered) in
      omega (arith, room, count, same)

  has_helpers : (q : ℕ) (h : HeldLane) → slice_get lanes q ≡ Some h → h.helpers ≡ helpers_of (machine_of waits lane_of_item bare helpers lanes 0).wiring q
  has_helpers q h there =
      let (shape, at, is) = made-from (idle_of_shape helpers) shapes lanes q h idle there in
      let ordered : get_or (map (λ (l : HeldLane). l.ordered) lanes) q true ≡ h.ordered =
      get_or-map (λ (l : HeldLane). l.ordered) lanes q h true (slice_get_within lanes q h there) ∙ ap (λ (l : HeldLane). l.ordered) (get_or_from_slice_get lanes q h h there) in
      let own : (if shape.ordered then 0 else helpers) ≡ h.helpers = ap (λ (l : HeldLane). l.helpers) is in
      let shaped_so : shape.ordered ≡ h.ordered = ap (λ (l : HeldLane). l.ordered) is in
      sym own ∙ ap (λ (b : Bool). if b then 0 else helpers) (shaped_so ∙ sym ordered)

  -- there is room for all items, and no entry is pending
  pub IsHeld-first : (numbers : List (Option ℕ)) (count : ℕ) → IsDeclaration d → IsAssignment d.groups a → a.lanes ≤ 4096 → helpers ≤ max_helpers → numbers ≡ replicate count None → count ≡ length d.waits
      → IsHeld waits lane_of_item bare helpers numbers lanes 0
  IsHeld-first numbers count declaration assignment few few_helpers none all =
      let first : machine_of waits lane_of_item bare helpers lanes 0 ≡ first_machine_bare d a bare helpers = machine_of-first in
      let empty : numbers ≡ replicate (items (wiring d a)) None = none ∙ ap (λ (n : ℕ). replicate n None) all in
      record {
        machine = subst IsMachine (sym first) (IsMachine-first_machine d a bare helpers declaration assignment few few_helpers);
        room = has_room;
        helped = has_helpers;
        numbers = subst (λ (m : Machine). IsNumbering m.wiring m.state numbers) (sym first)
            (subst (IsNumbering (with_helpers (with_bare (wiring d a) bare) helpers) (empty_state (wiring d a))) (sym empty) (IsNumbering-empty (with_helpers (with_bare (wiring d a) bare) helpers)));
        rising = subst (λ (m : Machine). (q : ℕ) → IsRising (lane_at m.state q).pending) (sym first) (λ q. subst (λ (l : Lane). IsRising l.pending) (sym (lane_at-empty_state (wiring d a) q)) IsRising-nil);
      }
