-- Changes: in what other workqueues differ from those that there are, and with which others a repair is compared.
use Rattle.std.specs.Prelude.{◌≡◌, ◌≢◌, ℕ, ◌<◌, ◌≤◌, ◌⊎◌, true, false, List, length, slice_index, slice_index_or}
use Rattle.std.specs.List.{Any}
use Rattle.wq_groups.specs.Declaration.{Declaration}
use Rattle.wq_groups.specs.Assignment.{IsAssignment, group_lane}
use Rattle.wq_core.specs.Workqueues.{Workqueues}

-- lane q has a rescuer, as in every wiring of these workqueues
abbrev pub IsRescued : Workqueues → ℕ → Type 0
IsRescued ws q = slice_index_or ws.bare q false ≡ false

-- lane q has none
abbrev pub IsBare : Workqueues → ℕ → Type 0
IsBare ws q = slice_index_or ws.bare q false ≡ true

-- the lane of group g
abbrev pub lane_in : Workqueues → ℕ → ℕ
lane_in ws g = group_lane ws.assignment g

-- a group is on lane q
pub record HoldsAny (ws : Workqueues) (q : ℕ) : Type 0 where
  pub group : ℕ
  pub is_group : group < length ws.assignment.lane_of_group
  pub on : lane_in ws group ≡ q

-- one of the named items is in group g, where items have these groups
abbrev pub HasName : List ℕ → List ℕ → ℕ → Type 0
HasName group_of names g = Any (λ i. slice_index group_of i ≡ g) names

-- group g may move: one of the named items is in it
abbrev pub IsNamed : Declaration → List ℕ → ℕ → Type 0
IsNamed d names g = HasName d.group_of names g

-- lane q may be given a rescuer: a group that may move is on it
pub record IsNamedLane (d : Declaration) (old : Workqueues) (names : List ℕ) (q : ℕ) : Type 0 where
  pub group : ℕ
  pub is_group : group < d.groups
  pub named : IsNamed d names group
  pub on : lane_in old group ≡ q

-- ---- changes

-- group g is on a lane of another number
abbrev pub HasMoved : Workqueues → Workqueues → ℕ → Type 0
HasMoved old new g = lane_in new g ≢ lane_in old g

-- lane q is given a rescuer: it had none and has one now, and a group is on it that was on it before. A lane on which
-- no group stays is as good as a new one, so a rescuer for it is no change
pub record IsGiven (d : Declaration) (old new : Workqueues) (q : ℕ) : Type 0 where
  pub bare : IsBare old q
  pub rescued : IsRescued new q
  pub group : ℕ
  pub is_group : group < d.groups
  pub was : lane_in old group ≡ q
  pub stays : lane_in new group ≡ q

-- each change of the one is a change of the other, which has one more at least
pub record HasFewerChanges (d : Declaration) (old one other : Workqueues) : Type 0 where
  pub moved : (g : ℕ) → g < d.groups → HasMoved old one g → HasMoved old other g
  pub given : (q : ℕ) → IsGiven d old one q → IsGiven d old other q
  pub more : ((g : ℕ) × (g < d.groups) × HasMoved old other g × (¬ HasMoved old one g))
      ⊎ ((q : ℕ) × IsGiven d old other q × (¬ IsGiven d old one q))

-- ---- what a repair is compared with

-- all lanes are still there, perhaps with more behind them, and none has lost its rescuer; every group that moved is on
-- a lane that has a rescuer; only groups that may move did, and only lanes that may be given a rescuer were
pub record IsToBeCompared (d : Declaration) (old : Workqueues) (names : List ℕ) (new : Workqueues) : Type 0 where
  pub assignment : IsAssignment d.groups new.assignment
  pub lanes : old.assignment.lanes ≤ new.assignment.lanes
  pub kept : (q : ℕ) → q < old.assignment.lanes → IsRescued old q → IsRescued new q
  pub onto_rescuers : (g : ℕ) → g < d.groups → HasMoved old new g → IsRescued new (lane_in new g)
  pub moved_named : (g : ℕ) → g < d.groups → HasMoved old new g → IsNamed d names g
  pub given_named : (q : ℕ) → IsGiven d old new q → IsNamedLane d old names q
