-- Lanes that are taken one after the other, and which groups have a rescuer then.
use Rattle.std.specs.Prelude.{◌≡◌, ◌≢◌, ℕ, ◌+◌, ◌-◌, ◌<◌, ◌≤◌, ◌⊎◌, nat_lt, if◌then◌else◌, false, List, Bool, length}
use Rattle.std.specs.Prelude.{slice_index, slice_index_or, AllPairs}
use Rattle.std.specs.List.{All}
use Rattle.wq_groups.specs.Assignment.{Assignment, group_lane}
use Rattle.wq_core.specs.Workqueues.{Workqueues}
use Rattle.wq_repair.specs.Changes.{IsRescued, lane_in}
use Rattle.wq_repair.specs.Marks.{IsMarked}

-- of these lanes, and then of new ones behind the `there` lanes that there are, the one with number n, from 0
abbrev pub nth_lane : List ℕ → ℕ → ℕ → ℕ
nth_lane free there n = if nat_lt n (length free) then slice_index free n else there + (n - length free)

-- these lanes are there, each once
pub record AreFree (there : ℕ) (free : List ℕ) : Type 0 where
  pub below : All (λ q. q < there) free
  pub once : AllPairs (λ (p q : ℕ). p ≢ q) free

-- the first `groups` groups are on these lanes: those that are marked on lanes of their own, of which so many are
-- taken, all others on theirs
pub record AreOwnLanes (old : Assignment) (marks : List Bool) (free : List ℕ) (groups : ℕ) (lane_of : List ℕ)
    (taken : ℕ)
    : Type 0 where
  pub one_each : length lane_of ≡ groups
  pub others : (g : ℕ) → g < groups → (¬ IsMarked marks g) → slice_index lane_of g ≡ group_lane old g
  pub own : (g : ℕ) → g < groups → IsMarked marks g
      → (n : ℕ) × (n < taken) × (slice_index lane_of g ≡ nth_lane free old.lanes n)
  pub apart : (g h : ℕ) → g < h → h < groups → IsMarked marks g → IsMarked marks h
      → slice_index lane_of g ≢ slice_index lane_of h
  pub all : (n : ℕ) → n < taken → (g : ℕ) × (g < groups) × (slice_index lane_of g ≡ nth_lane free old.lanes n)
  pub few : taken ≤ groups

-- lane q is given a rescuer by one of the first `groups` groups, which is on it now: it came there, or its old lane is
-- given one
pub record HasComer (old : Workqueues) (comes given : List Bool) (lane_of : List ℕ) (groups q : ℕ) : Type 0 where
  pub group : ℕ
  pub is_group : group < groups
  pub why : IsMarked comes group ⊎ IsMarked given (lane_in old group)
  pub on : slice_index lane_of group ≡ q

-- the lanes that had a rescuer, and those that are given one by one of the first `groups` groups, have one, and of the
-- old lanes no others. The list isn't longer than there were lanes
pub record AreBareNow (old : Workqueues) (comes given : List Bool) (lane_of : List ℕ) (groups : ℕ) (bare : List Bool)
    : Type 0 where
  pub few : length bare ≤ old.assignment.lanes
  pub rescued : (q : ℕ) → IsRescued old q ⊎ HasComer old comes given lane_of groups q
      → slice_index_or bare q false ≡ false
  pub only : (q : ℕ) → q < old.assignment.lanes → slice_index_or bare q false ≡ false
      → IsRescued old q ⊎ HasComer old comes given lane_of groups q
