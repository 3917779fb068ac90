-- Which groups stay on their lanes, and what shows that no other could. The vertices are groups: a group that stays is
-- at the home of its lane, and each other group is alone.
use Rattle.std.specs.Prelude.{◌≡◌, ℕ, ◌<◌, ◌⊎◌, not, map, List, Bool, Option, None, Some, length, slice_index}
use Rattle.std.specs.Prelude.{slice_index_or}
use Rattle.wq_items.specs.Chain.{Circle}
use Rattle.wq_groups.specs.Assignment.{Assignment, group_lane}
use Rattle.wq_graph.specs.declared.arc.WaitArc.{WaitArc}
use Rattle.wq_graph.specs.Graph.{HasArc}
use Rattle.wq_core.specs.Workqueues.{Workqueues}
use Rattle.wq_repair.specs.Marks.{IsMarked}
use Rattle.wq_repair.specs.Near.{LeadEitherWay}
use Rattle.wq_repair.specs.Together.{ArcBetween}

-- which groups stay on their lanes, and a rank for each group
pub record Settled : Type 0 where
  pub stays : List Bool
  pub ranks : List ℕ

-- group v is the home of lane q
abbrev pub IsHomeOf : List (Option ℕ) → ℕ → ℕ → Type 0
IsHomeOf homes q v = slice_index_or homes q None ≡ Some v

-- for each lane one of the groups that stay on it, if there is one
pub record AreHomes (old : Assignment) (stays : List Bool) (homes : List (Option ℕ)) : Type 0 where
  pub one_each : length homes ≡ old.lanes
  pub on : (q v : ℕ) → IsHomeOf homes q v → IsMarked stays v × (group_lane old v ≡ q)
  pub all : (g : ℕ) → IsMarked stays g → (v : ℕ) × IsHomeOf homes (group_lane old g) v

-- the vertex of each group: the home of its lane if it stays, and else the group itself
pub record AreVertices (old : Assignment) (stays : List Bool) (homes : List (Option ℕ)) (at : List ℕ) : Type 0 where
  pub one_each : length at ≡ length stays
  pub home : (g : ℕ) → IsMarked stays g → IsHomeOf homes (group_lane old g) (slice_index at g)
  pub alone : (g : ℕ) → g < length stays → (¬ IsMarked stays g) → slice_index at g ≡ g

-- ranks fall along all arcs and are below 4,096, and a group has that of its vertex
pub record HaveRanks (graph : List (List WaitArc)) (at ranks : List ℕ) : Type 0 where
  pub one_each : length ranks ≡ length graph
  pub low : (g : ℕ) → g < length graph → slice_index ranks g < 4096
  pub fall : (g h : ℕ) → HasArc graph g h → slice_index ranks h < slice_index ranks g
  pub same : (g : ℕ) → g < length graph → slice_index ranks (slice_index at g) ≡ slice_index ranks g

-- each of these groups leads to the home of its lane, or is led to by it
abbrev pub AreInVain : List (List WaitArc) → Assignment → List (Option ℕ) → List ℕ → List Bool → Type 0
AreInVain graph old homes at groups = (g : ℕ) → IsMarked groups g
    → (v : ℕ) × IsHomeOf homes (group_lane old g) v × LeadEitherWay graph at g v

-- the groups that stay are those that can't move and some of those that may stay
pub record IsWithin (fixed tried stays : List Bool) : Type 0 where
  pub kept : (g : ℕ) → IsMarked fixed g → IsMarked stays g
  pub only : (g : ℕ) → IsMarked stays g → IsMarked fixed g ⊎ IsMarked tried g

-- group h stays, or is the one that is tried
abbrev pub StaysOr : List Bool → ℕ → ℕ → Type 0
StaysOr stays g h = (h ≡ g) ⊎ IsMarked stays h

-- the group was tried in vain: with it and some of those that stay on its lane, and all others alone, there is a circle
pub record WasInVain (graph : List (List WaitArc)) (old : Assignment) (stays : List Bool) (g : ℕ) : Type 0 where
  pub at : List ℕ
  pub together : (h k : ℕ) → h < length graph → k < length graph → slice_index at h ≡ slice_index at k
      → (h ≡ k) ⊎ (StaysOr stays g h × StaysOr stays g k × (group_lane old h ≡ group_lane old k))
  pub circle : Circle (ArcBetween graph at)

-- another group stays on the lane of group g
pub record HasStaying (old : Assignment) (stays : List Bool) (g : ℕ) : Type 0 where
  pub group : ℕ
  pub marked : IsMarked stays group
  pub beside : group_lane old group ≡ group_lane old g

-- ranks fall along all arcs and are below 4,096, and are the same for all that stay on a lane
pub record AreRanksOnLanes (graph : List (List WaitArc)) (old : Assignment) (stays : List Bool) (ranks : List ℕ)
    : Type 0 where
  pub one_each : length ranks ≡ length graph
  pub low : (g : ℕ) → g < length graph → slice_index ranks g < 4096
  pub fall : (g h : ℕ) → HasArc graph g h → slice_index ranks h < slice_index ranks g
  pub same : (g h : ℕ) → IsMarked stays g → IsMarked stays h → group_lane old g ≡ group_lane old h
      → slice_index ranks g ≡ slice_index ranks h

-- the groups that stay have such ranks. Of the first `done` groups, each that may stay does, or was tried in vain, and
-- a group stays on its lane
pub record IsSettled (graph : List (List WaitArc)) (old : Assignment) (fixed tried : List Bool) (done : ℕ)
    (s : Settled) : Type 0 where
  pub one_each : length s.stays ≡ length graph
  pub within : IsWithin fixed tried s.stays
  pub ranks : AreRanksOnLanes graph old s.stays s.ranks
  pub each : (g : ℕ) → g < done → IsMarked tried g
      → HasStaying old s.stays g × ((¬ IsMarked s.stays g) → WasInVain graph old s.stays g)

-- the workqueues whose lanes are vertices, of which those have a rescuer whose groups need one
abbrev pub vertices_placed : List Bool → List ℕ → Workqueues
vertices_placed needed at =
    record { assignment = record { lanes = length at; lane_of_group = at }; bare = map not needed }

-- P holds of the workqueues whose lanes are the vertices of groups, if these stay
pub record IsSettledBy (old : Assignment) (needed stays : List Bool) (P : Workqueues → Type 0) : Type 0 where
  pub homes : List (Option ℕ)
  pub vertices : List ℕ
  pub are_homes : AreHomes old stays homes
  pub are_vertices : AreVertices old stays homes vertices
  pub holds : P (vertices_placed needed vertices)
