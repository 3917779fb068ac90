-- What is known when groups are settled, and what comes of it.
use Rattle.std.specs.Prelude.{◌≡◌, ◌↔◌, ℕ, ◌<◌, ◌≤◌, ◌⊎◌, max, List, Bool, length, slice_index}
use Rattle.wq_groups.specs.Declaration.{Declaration, GroupWaits}
use Rattle.wq_groups.specs.Assignment.{IsAssignment}
use Rattle.wq_graph.specs.declared.arc.WaitArc.{WaitArc}
use Rattle.wq_graph.specs.Graph.{HasArc}
use Rattle.wq_core.specs.Workqueues.{Workqueues, wiring_of}
use Rattle.wq_core.specs.Deadlock.{IsSafe}
use Rattle.wq_levels.specs.Ranks.{AreRanks}
use Rattle.wq_deadlock.specs.Judging.{rescued_graph}
use Rattle.wq_repair.specs.Changes.{IsRescued, HoldsAny, IsNamedLane, HasMoved, IsToBeCompared, lane_in}
use Rattle.wq_repair.specs.Marks.{IsMarked, Marks}
use Rattle.wq_repair.specs.Settled.{Settled, IsSettled}
use Rattle.wq_repair.specs.Joined.{AreChangesNeeded, FallsAlongWaits}
use Rattle.wq_repair.specs.Steps.{Named, AreNamed, IsToBeGiven, IsMovable, IsStartBy}

-- which groups need a rescuer, which of them may move, and which lanes are given a rescuer
pub record Scope : Type 0 where
  pub needed : List Bool
  pub movable : List Bool
  pub given : List Bool

-- each group on a lane with a rescuer is among those that need one
abbrev pub CoversRescued : Declaration → Workqueues → List Bool → Type 0
CoversRescued d old needed = (g : ℕ) → g < d.groups → IsRescued old (lane_in old g) → IsMarked needed g

-- the lists say which groups may move and which lanes are given a rescuer; and each group on a lane with a rescuer is
-- among those that need one
pub record IsScope (d : Declaration) (old : Workqueues) (names : List ℕ) (s : Scope) : Type 0 where
  pub assignment : IsAssignment d.groups old.assignment
  pub one_each : length s.needed ≡ d.groups
  pub named : Named
  pub are_named : AreNamed d old names named
  pub are_movable : Marks (IsMovable named.groups s.needed) d.groups s.movable
  pub are_given : Marks (IsToBeGiven old named.lanes s.needed) old.assignment.lanes s.given
  pub first : CoversRescued d old s.needed

-- and the start, in which all that need a rescuer have one, is safe
pub record IsReady (d : Declaration) (old : Workqueues) (names : List ℕ) (s : Scope) (start : Workqueues) : Type 0 where
  pub scope : IsScope d old names s
  pub by : IsStartBy old s.movable s.given start
  pub rescued : (g : ℕ) → g < d.groups → IsMarked s.needed g → IsRescued start (lane_in start g)
  pub safe : IsSafe (wiring_of d start)

-- arcs lead from group to group, of those that need a rescuer
pub record IsGraphOfNeeded (d : Declaration) (needed : List Bool) (graph : List (List WaitArc)) : Type 0 where
  pub long : length graph ≡ d.groups
  pub arcs : (g h : ℕ) → HasArc graph g h ↔ (IsMarked needed g × IsMarked needed h × GroupWaits d g h)

-- it may be compared, all changes are needed, and numbers fall along all waits. A group is on each new lane, and on
-- each old one that has a rescuer now and had none. A group that moved to a lane that held groups moved to a named one
pub record IsMinimal (d : Declaration) (old : Workqueues) (names : List ℕ) (needed : List Bool)
    (new : Workqueues) : Type 0 where
  pub compared : IsToBeCompared d old names new
  pub changes : AreChangesNeeded d old new needed
  pub number : ℕ → ℕ
  pub falls : FallsAlongWaits d new needed number
  pub few : new.assignment.lanes ≤ max old.assignment.lanes d.groups
  pub bare : length new.bare ≤ new.assignment.lanes
  pub used : (q : ℕ) → old.assignment.lanes ≤ q → q < new.assignment.lanes → HoldsAny new q
  pub only : (q : ℕ) → q < old.assignment.lanes → IsRescued new q → IsRescued old q ⊎ HoldsAny new q
  pub hosted : (g : ℕ) → g < d.groups → HasMoved old new g → HoldsAny old (lane_in new g)
      → IsNamedLane d old names (lane_in new g)

-- the group may stay: its lane has a rescuer, or is given one
abbrev pub IsTried : Workqueues → Scope → ℕ → Type 0
IsTried old s g = IsMarked s.movable g × (IsMarked s.given (lane_in old g) ⊎ IsRescued old (lane_in old g))

-- the groups of one list that aren't in the other
abbrev pub IsButNot : List Bool → List Bool → ℕ → Type 0
IsButNot one other g = IsMarked one g × (¬ IsMarked other g)

-- for each group the rank of its lane among those that have a rescuer
pub record AreRanksOfGroups (d : Declaration) (ws : Workqueues) (ranks : List ℕ) : Type 0 where
  pub of_lanes : List ℕ
  pub are : AreRanks (rescued_graph d ws) of_lanes
  pub one_each : length ranks ≡ d.groups
  pub exactly : (g : ℕ) → g < d.groups → slice_index ranks g ≡ slice_index of_lanes (lane_in ws g)

-- arcs lead from group to group, of those that need a rescuer; and so do those that can't move, and those that may stay
pub record IsTrial (d : Declaration) (needed fixed tried : List Bool) (graph : List (List WaitArc)) : Type 0 where
  pub long : length needed ≡ d.groups
  pub of : IsGraphOfNeeded d needed graph
  pub fixed_needed : (g : ℕ) → IsMarked fixed g → IsMarked needed g
  pub tried_needed : (g : ℕ) → IsMarked tried g → IsMarked needed g

-- the groups that can't move stay, and those that may stay are settled in the graph of those that need a rescuer
pub record IsSettledIn (d : Declaration) (old : Workqueues) (s : Scope) (tried : List Bool) (settled : Settled)
    : Type 0 where
  pub graph : List (List WaitArc)
  pub fixed : List Bool
  pub of : IsGraphOfNeeded d s.needed graph
  pub are_fixed : Marks (IsButNot s.needed s.movable) d.groups fixed
  pub is : IsSettled graph old.assignment fixed tried (length graph) settled
