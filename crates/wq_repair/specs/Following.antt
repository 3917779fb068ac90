-- Groups that are found one after the other.
use Rattle.std.specs.Prelude.{◌≡◌, ◌↔◌, ℕ, ◌<◌, ◌≤◌, ◌⊎◌, List, [], Bool, length, slice_index, slice_index_or, Contains}
use Rattle.wq_graph.specs.declared.arc.WaitArc.{WaitArc}
use Rattle.wq_graph.specs.Graph.{HasArc}
use Rattle.wq_core.specs.Workqueues.{Workqueues}
use Rattle.wq_groups.specs.Declaration.{Declaration}
use Rattle.wq_repair.specs.Changes.{IsRescued, IsBare, lane_in}
use Rattle.wq_repair.specs.Needed.{BringsAlong, NeedsRescuerOf}
use Rattle.wq_repair.specs.Marks.{IsMarked}
use Rattle.wq_repair.specs.Steps.{Named}
use Rattle.wq_repair.specs.Together.{Lists}

-- which groups are found, and in which order
pub record FoundGroups : Type 0 where
  pub marks : List Bool
  pub list : List ℕ

-- all groups of which P holds are found now, and no other group that wasn't found before. The list is continued in
-- order
pub record HasGrown (old new : FoundGroups) (P : ℕ → Type 0) : Type 0 where
  pub one_each : length new.marks ≡ length old.marks
  pub kept : (g : ℕ) → IsMarked old.marks g → IsMarked new.marks g
  pub longer : length old.list ≤ length new.list
  pub as_before : (k : ℕ) → k < length old.list → slice_index new.list k ≡ slice_index old.list k
  pub added : (g : ℕ) → IsMarked new.marks g → IsMarked old.marks g ⊎ P g
  pub all : (g : ℕ) → P g → IsMarked new.marks g
  pub lists : Lists old.marks old.list → Lists new.marks new.list

-- g isn't named and its lane, which has no rescuer, is, if these lists say so; and h is on it
pub record IsBesideBy (old : Workqueues) (n : Named) (g h : ℕ) : Type 0 where
  pub unnamed : ¬ IsMarked n.groups g
  pub bare : IsBare old (lane_in old g)
  pub named_lane : IsMarked n.lanes (lane_in old g)
  pub is_group : h < length old.assignment.lane_of_group
  pub beside : lane_in old h ≡ lane_in old g

-- group g brings h along: an arc leads there, or h is beside it
abbrev pub BringsAlongBy : List (List WaitArc) → Workqueues → Named → ℕ → ℕ → Type 0
BringsAlongBy graph old n g h = HasArc graph g h ⊎ IsBesideBy old n g h

-- the graph and what is found are of all groups, at most 4,096, and `on` has the groups of each lane
pub record CanFollow (graph : List (List WaitArc)) (on : List (List ℕ)) (old : Workqueues) (f : FoundGroups) : Type 0
  where
    pub few : length old.assignment.lane_of_group ≤ 4096
    pub marks : length f.marks ≡ length old.assignment.lane_of_group
    pub graph_of : length graph ≡ length old.assignment.lane_of_group
    pub on_each : length on ≡ old.assignment.lanes
    pub exactly : (q g : ℕ) → Contains (slice_index_or on q []) g
        ↔ ((g < length old.assignment.lane_of_group) × (lane_in old g ≡ q))

-- all found need a rescuer; the groups on lanes that have one are found, and so are the groups that the first `done` of
-- the list bring along
pub record IsFollowed (d : Declaration) (old : Workqueues) (names : List ℕ) (f : FoundGroups) (done : ℕ) : Type 0 where
  pub one_each : length f.marks ≡ d.groups
  pub lists : Lists f.marks f.list
  pub sound : (g : ℕ) → IsMarked f.marks g → NeedsRescuerOf d old names g
  pub first : (g : ℕ) → g < d.groups → IsRescued old (lane_in old g) → IsMarked f.marks g
  pub followed : (k h : ℕ) → k < done → BringsAlong d old names (slice_index f.list k) h → IsMarked f.marks h
  pub within : done ≤ length f.list
