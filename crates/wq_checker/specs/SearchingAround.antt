-- Searching around fixed workqueues: what is found of flushes that fall by an order, and of arcs that join.
use Rattle.std.specs.Prelude.{◌≡◌, ℕ, ◌<◌, Bool, false, List, Option, Some, None, slice_index, slice_index_or}
use Rattle.wq_items.specs.declared.target.Target.{Target}
use Rattle.wq_items.specs.Table.{ItemWaits}
use Rattle.wq_groups.specs.Declaration.{Declaration}
use Rattle.wq_groups.specs.Assignment.{Assignment, item_lane}
use Rattle.wq_core.specs.Wiring.{Wiring, lane_of}
use Rattle.wq_fixed.specs.Fixed.{Fixed}
use Rattle.wq_cert.specs.AroundReading.{AroundPlan}
use Rattle.wq_checker.specs.Falling.{Declares}
use Rattle.wq_checker.specs.Around.{AllFallAround, IsFirstNotFallingAround}

-- a flush from lane p to lane q falls: if p has a rescuer, q has one, and a lower place
abbrev pub FallsTo : List Bool → List ℕ → ℕ → ℕ → Type 0
FallsTo bare places p q =
    slice_index_or bare p false ≡ false
    → (slice_index_or bare q false ≡ false) × (slice_index places q < slice_index places p)

-- the same of the lanes of items i and j
abbrev pub ItemsFall : Declaration → Assignment → List Bool → List ℕ → ℕ → ℕ → Type 0
ItemsFall d a bare places i j = FallsTo bare places (item_lane a d.group_of i) (item_lane a d.group_of j)

-- each declared flush falls
abbrev pub AllItemsFall : Declaration → Assignment → List Bool → List ℕ → Type 0
AllItemsFall d a bare places = (i j : ℕ) → ItemWaits d.waits i j → ItemsFall d a bare places i j

-- of the declared flushes that don't fall, the one at the lowest place is by item i, and its target is item j
pub record IsFirstItemStaying (d : Declaration) (a : Assignment) (bare : List Bool) (places : List ℕ) (i j : ℕ)
    : Type 0 where
  pub target : Target
  pub declares : Declares d i target
  pub of_target : target.item ≡ j
  pub stays : ¬ ItemsFall d a bare places i j
  pub first : (k : ℕ) (other : Target) → Declares d k other → other.place < target.place
      → ItemsFall d a bare places k other.item

-- the first declared flush that doesn't fall by a plan's order is found, if there is one; otherwise each falls
abbrev pub FindsNotFalling : Declaration → Fixed → AroundPlan → Option (ℕ × ℕ) → Type 0
FindsNotFalling d f c None = AllFallAround d f c
FindsNotFalling d f c (Some stays) = IsFirstNotFallingAround d f c stays.0 stays.1

-- item i is on the lane of the target of the arc before it, if there is one
abbrev pub Follows : Wiring → Option (ℕ × ℕ) → ℕ → Type 0
Follows w before i = (b : ℕ × ℕ) → before ≡ Some b → lane_of w b.1 ≡ lane_of w i
