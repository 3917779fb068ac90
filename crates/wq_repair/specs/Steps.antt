-- What the steps of a repair leave. Which groups may move and which need a rescuer is known here by lists.
use Rattle.std.specs.Prelude.{◌≡◌, ℕ, ◌<◌, ◌≤◌, ◌⊎◌, List, Bool, length, slice_index, max}
use Rattle.wq_groups.specs.Declaration.{Declaration, GroupWaits}
use Rattle.wq_core.specs.Workqueues.{Workqueues}
use Rattle.wq_repair.specs.Changes.{IsRescued, IsBare, HoldsAny, IsNamed, IsNamedLane, lane_in}
use Rattle.wq_repair.specs.Joined.{IsTriedInVain}
use Rattle.wq_repair.specs.Marks.{IsMarked, Marks}

-- which groups may move, and which lanes may be given a rescuer
pub record Named : Type 0 where
  pub groups : List Bool
  pub lanes : List Bool

-- the lists say so, if only the groups of these items may move
pub record AreNamed (d : Declaration) (old : Workqueues) (names : List ℕ) (n : Named) : Type 0 where
  pub groups : Marks (IsNamed d names) d.groups n.groups
  pub lanes : Marks (IsNamedLane d old names) old.assignment.lanes n.lanes

-- one of the marked groups is on lane q
pub record HoldsMarked (ws : Workqueues) (marks : List Bool) (q : ℕ) : Type 0 where
  pub group : ℕ
  pub is_group : group < length marks
  pub marked : IsMarked marks group
  pub on : lane_in ws group ≡ q

-- lane q is given a rescuer: it has none and may be given one, and all groups on it need one
pub record IsToBeGiven (old : Workqueues) (named_lanes needed : List Bool) (q : ℕ) : Type 0 where
  pub bare : IsBare old q
  pub named : IsMarked named_lanes q
  pub all : (g : ℕ) → g < length needed → lane_in old g ≡ q → IsMarked needed g

-- group g may move and needs a rescuer
abbrev pub IsMovable : List Bool → List Bool → ℕ → Type 0
IsMovable named needed g = IsMarked named g × IsMarked needed g

-- a group is on lane q that can't move, or needn't
pub record HoldsOther (ws : Workqueues) (movable : List Bool) (q : ℕ) : Type 0 where
  pub group : ℕ
  pub is_group : group < length movable
  pub other : ¬ IsMarked movable group
  pub on : lane_in ws group ≡ q

-- each movable group is alone on a lane that has a rescuer, and all others are where they were. The lanes that have a
-- rescuer are those that had one, those of movable groups, and those that are given one and hold another group
pub record IsStartBy (old : Workqueues) (movable given : List Bool) (start : Workqueues) : Type 0 where
  pub one_each : length start.assignment.lane_of_group ≡ length movable
  pub within : (g : ℕ) → g < length movable → lane_in start g < start.assignment.lanes
  pub more : old.assignment.lanes ≤ start.assignment.lanes
  pub few : start.assignment.lanes ≤ max old.assignment.lanes (length movable)
  pub bare : length start.bare ≤ start.assignment.lanes
  pub stay : (g : ℕ) → g < length movable → (¬ IsMarked movable g) → lane_in start g ≡ lane_in old g
  pub alone : (g h : ℕ) → g < length movable → h < length movable → IsMarked movable g
      → lane_in start g ≡ lane_in start h → g ≡ h
  pub rescued : (g : ℕ) → g < length movable → IsMarked movable g → IsRescued start (lane_in start g)
  pub kept : (q : ℕ) → IsRescued old q → IsRescued start q
  pub given_one : (q : ℕ) → IsMarked given q → HoldsOther old movable q → IsRescued start q
  pub only : (g : ℕ) → g < length movable → (¬ IsMarked movable g) → IsRescued start (lane_in old g)
      → IsRescued old (lane_in old g) ⊎ IsMarked given (lane_in old g)

-- a group of these was on lane q and still is
pub record KeepsNeeded (old new : Workqueues) (needed : List Bool) (q : ℕ) : Type 0 where
  pub group : ℕ
  pub is_group : group < length needed
  pub needs : IsMarked needed group
  pub was : lane_in old group ≡ q
  pub stays : lane_in new group ≡ q

-- ---- placing

-- where groups go: those that leave go to lanes that have a rescuer, all others stay; groups that share a lane and need
-- a rescuer have the same rank. A group is on each new lane, and on each old one that has a rescuer now and had none
pub record ArePlacedBy (old : Workqueues) (given stays leaves : List Bool) (ranks : List ℕ) (new : Workqueues)
    : Type 0 where
  pub one_each : length new.assignment.lane_of_group ≡ length leaves
  pub within : (g : ℕ) → g < length leaves → lane_in new g < new.assignment.lanes
  pub more : old.assignment.lanes ≤ new.assignment.lanes
  pub few : new.assignment.lanes ≤ max old.assignment.lanes (length leaves)
  pub bare : length new.bare ≤ new.assignment.lanes
  pub stay : (g : ℕ) → g < length leaves → (¬ IsMarked leaves g) → lane_in new g ≡ lane_in old g
  pub rescued : (g : ℕ) → g < length leaves → IsMarked leaves g → IsRescued new (lane_in new g)
  pub kept : (q : ℕ) → IsRescued old q → IsRescued new q
  pub given_one : (g : ℕ) → g < length leaves → (¬ IsMarked leaves g) → IsMarked given (lane_in old g)
      → IsRescued new (lane_in old g)
  pub only : (g : ℕ) → g < length leaves → IsRescued new (lane_in old g)
      → IsRescued old (lane_in old g) ⊎ IsMarked given (lane_in old g)
  pub used : (q : ℕ) → old.assignment.lanes ≤ q → q < new.assignment.lanes → HoldsAny new q
  pub only_used : (q : ℕ) → q < old.assignment.lanes → IsRescued new q → IsRescued old q ⊎ HoldsAny new q
  pub ranked : (g h : ℕ) → g < length leaves → h < length leaves → IsMarked stays g ⊎ IsMarked leaves g
      → IsMarked stays h ⊎ IsMarked leaves h
      → lane_in new g ≡ lane_in new h → slice_index ranks g ≡ slice_index ranks h

-- what is known of those that leave when groups are placed: each may move and needs a rescuer, and either its lane has
-- none and gets none, or it was tried in vain. A group that needs a rescuer and doesn't leave has one on its lane.
-- Ranks fall along all waits of those that need one
pub record AreLeaving (d : Declaration) (old : Workqueues) (names : List ℕ) (needed given leaves : List Bool)
    (ranks : List ℕ) (new : Workqueues) : Type 0 where
  pub one_each : length leaves ≡ d.groups
  pub first : (g : ℕ) → g < d.groups → IsRescued old (lane_in old g) → IsMarked needed g
  pub next : (g h : ℕ) → GroupWaits d g h → IsMarked needed g → IsMarked needed h
  pub movable : (g : ℕ) → g < d.groups → IsMarked leaves g → IsNamed d names g × IsMarked needed g
  pub why : (g : ℕ) → g < d.groups → IsMarked leaves g
      → (IsBare old (lane_in old g) × (¬ IsMarked given (lane_in old g))) ⊎ IsTriedInVain d old new needed g
  pub others : (g : ℕ) → g < d.groups → IsMarked needed g → (¬ IsMarked leaves g)
      → IsRescued old (lane_in old g) ⊎ IsMarked given (lane_in old g)
  pub fall : (g h : ℕ) → GroupWaits d g h → IsMarked needed g → slice_index ranks h < slice_index ranks g
