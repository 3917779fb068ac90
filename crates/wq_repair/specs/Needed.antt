-- Which groups need a rescuer, whatever is changed.
use Rattle.std.specs.Prelude.{◌≡◌, ◌↔◌, ℕ, ◌<◌, ◌⊎◌, false, true, Bool, List, ◌∷◌, length, slice_index_or}
use Rattle.wq_items.specs.Chain.{IsChain, last_of}
use Rattle.wq_groups.specs.Declaration.{Declaration, GroupWaits}
use Rattle.wq_core.specs.Workqueues.{Workqueues}
use Rattle.wq_repair.specs.Changes.{IsRescued, IsBare, IsNamed, IsNamedLane, lane_in}

-- a chain leads to g from a group on a lane that has a rescuer; such a group leads to itself
pub record IsLedTo (d : Declaration) (old : Workqueues) (R : ℕ → ℕ → Type 0) (g : ℕ) : Type 0 where
  pub first : ℕ
  pub others : List ℕ
  pub is_group : first < d.groups
  pub rescued : IsRescued old (lane_in old first)
  pub chain : IsChain R (first ∷ others)
  pub ends : last_of first others ≡ g

-- the group needs a rescuer, whatever may move: it is on a lane that has one, or a group that needs one waits for it
abbrev pub NeedsRescuer : Declaration → Workqueues → ℕ → Type 0
NeedsRescuer d old g = IsLedTo d old (GroupWaits d) g

-- if g needs a rescuer, so does h: g may not move, so their lane, which has none and may be given one, has to be given
-- one
pub record StaysBeside (d : Declaration) (old : Workqueues) (names : List ℕ) (g h : ℕ) : Type 0 where
  pub unnamed : ¬ IsNamed d names g
  pub bare : IsBare old (lane_in old g)
  pub named_lane : IsNamedLane d old names (lane_in old g)
  pub is_group : h < d.groups
  pub beside : lane_in old h ≡ lane_in old g

-- g waits for h, or stays beside it
abbrev pub BringsAlong : Declaration → Workqueues → List ℕ → ℕ → ℕ → Type 0
BringsAlong d old names g h = GroupWaits d g h ⊎ StaysBeside d old names g h

-- the group needs a rescuer if only these may move
abbrev pub NeedsRescuerOf : Declaration → Workqueues → List ℕ → ℕ → Type 0
NeedsRescuerOf d old names g = IsLedTo d old (BringsAlong d old names) g

-- these say of each group in turn whether it needs no rescuer
pub record AreUnneeded (d : Declaration) (old : Workqueues) (out : List Bool) : Type 0 where
  pub one_each : length out ≡ d.groups
  pub exactly : (g : ℕ) → g < d.groups → (slice_index_or out g true ≡ false) ↔ NeedsRescuer d old g
