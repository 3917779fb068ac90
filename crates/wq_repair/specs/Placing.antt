-- Lanes of ranks, and how groups come to them.
use Rattle.std.specs.Prelude.{◌≡◌, ◌↔◌, ℕ, ◌<◌, ◌≤◌, ◌⊎◌, List, Bool, Option, Some, None, length, slice_index}
use Rattle.std.specs.Prelude.{slice_index_or, Contains}
use Rattle.wq_core.specs.Workqueues.{Workqueues}
use Rattle.wq_repair.specs.Changes.{IsRescued, HoldsAny, lane_in}
use Rattle.wq_repair.specs.Marks.{IsMarked}
use Rattle.wq_repair.specs.Lanes.{nth_lane}
use Rattle.wq_repair.specs.Steps.{HoldsMarked}

-- the lane of a rank, if there is one
abbrev pub IsLaneOfRank : List (Option ℕ) → ℕ → ℕ → Type 0
IsLaneOfRank of_rank r q = slice_index_or of_rank r None ≡ Some q

-- there is none
abbrev pub HasNoLane : List (Option ℕ) → ℕ → Type 0
HasNoLane of_rank r = slice_index_or of_rank r None ≡ None

-- a marked group of this rank is on the lane
pub record HoldsRanked (old : Workqueues) (marks : List Bool) (ranks : List ℕ) (r q : ℕ) : Type 0 where
  pub group : ℕ
  pub marked : IsMarked marks group
  pub ranked : slice_index ranks group ≡ r
  pub on : lane_in old group ≡ q

-- for each of `most` ranks a named lane on which a marked group of this rank is, if one of the first `groups` is on a
-- named lane
pub record AreLanesOfRanks (old : Workqueues) (marks named : List Bool) (ranks : List ℕ) (most groups : ℕ)
    (of_rank : List (Option ℕ)) : Type 0 where
  pub one_each : length of_rank ≡ most
  pub holds : (r q : ℕ) → IsLaneOfRank of_rank r q → HoldsRanked old marks ranks r q
  pub on_named : (r q : ℕ) → IsLaneOfRank of_rank r q → IsMarked named q
  pub all : (g : ℕ) → g < groups → IsMarked marks g → IsMarked named (lane_in old g)
      → ¬ HasNoLane of_rank (slice_index ranks g)

-- a marked group has this rank
pub record HasRanked (marks : List Bool) (ranks : List ℕ) (r : ℕ) : Type 0 where
  pub group : ℕ
  pub marked : IsMarked marks group
  pub ranked : slice_index ranks group ≡ r

-- just these lanes hold no group
abbrev pub AreEmpty : Workqueues → List ℕ → Type 0
AreEmpty old empty = (q : ℕ) → Contains empty q ↔ ((q < old.assignment.lanes) × (¬ HoldsAny old q))

-- of the first `most` ranks, each that is marked and had no lane has one of those that are taken, each another one; all
-- others have the lane that they had
pub record AreTaken (leave : List Bool) (empty : List ℕ) (there most : ℕ) (before after : List (Option ℕ)) (taken : ℕ)
    : Type 0 where
  pub one_each : length after ≡ length before
  pub kept : (r q : ℕ) → IsLaneOfRank before r q → IsLaneOfRank after r q
  pub took : (r : ℕ) → r < most → IsMarked leave r → HasNoLane before r
      → (n : ℕ) × (n < taken) × IsLaneOfRank after r (nth_lane empty there n)
  pub only : (r q : ℕ) → HasNoLane before r → IsLaneOfRank after r q
      → (n : ℕ) × (n < taken) × (q ≡ nth_lane empty there n)
  pub all : (n : ℕ) → n < taken → (r : ℕ) × (r < most) × IsMarked leave r
      × IsLaneOfRank after r (nth_lane empty there n)
  pub once : (r s n : ℕ) → HasNoLane before r → HasNoLane before s → IsLaneOfRank after r (nth_lane empty there n)
      → IsLaneOfRank after s (nth_lane empty there n) → n < taken → r ≡ s
  pub few : taken ≤ most

-- marked groups are on the lanes of their ranks, all others on theirs
pub record AreRankedLanes (old : Workqueues) (marks : List Bool) (ranks : List ℕ) (of_rank : List (Option ℕ))
    (groups : ℕ) (lane_of : List ℕ) : Type 0 where
  pub one_each : length lane_of ≡ groups
  pub marked : (g : ℕ) → g < groups → IsMarked marks g
      → IsLaneOfRank of_rank (slice_index ranks g) (slice_index lane_of g)
  pub others : (g : ℕ) → g < groups → (¬ IsMarked marks g) → slice_index lane_of g ≡ lane_in old g

-- groups can be placed by their ranks, which are below `most`: a group that stays doesn't leave, and its lane has a
-- rescuer or is given one. All that stay on a lane have the same rank, and another group is on a lane that one leaves
pub record CanBePlaced (old : Workqueues) (given stays leaves : List Bool) (ranks : List ℕ) (most : ℕ) : Type 0 where
  pub below : (g : ℕ) → g < length ranks → slice_index ranks g < most
  pub apart : (g : ℕ) → IsMarked stays g → ¬ IsMarked leaves g
  pub same : (g h : ℕ) → IsMarked stays g → IsMarked stays h → lane_in old g ≡ lane_in old h
      → slice_index ranks g ≡ slice_index ranks h
  pub held : (g : ℕ) → g < length leaves → IsMarked leaves g
      → (h : ℕ) × (h < length leaves) × (lane_in old h ≡ lane_in old g) × (¬ IsMarked leaves h)
  pub fine : (g : ℕ) → IsMarked stays g → IsRescued old (lane_in old g) ⊎ IsMarked given (lane_in old g)

-- if a group that leaves moves to a lane that held groups, a movable group was on it
abbrev pub AreHosted : Workqueues → List Bool → List Bool → Workqueues → Type 0
AreHosted old movable leaves new = (g : ℕ) → g < length leaves → IsMarked leaves g → HoldsAny old (lane_in new g)
    → HoldsMarked old movable (lane_in new g)
