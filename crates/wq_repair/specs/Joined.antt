-- Lanes that are put together, and what is known of workqueues when they are found: from this alone follows what is
-- promised.
use Rattle.std.specs.Prelude.{◌≡◌, ℕ, ◌<◌, ◌⊎◌, ◌==◌, if◌then◌else◌, Bool, List, slice_index}
use Rattle.wq_items.specs.Chain.{Circle}
use Rattle.wq_groups.specs.Declaration.{Declaration, GroupWaits}
use Rattle.wq_core.specs.Wiring.{RescuedWaits}
use Rattle.wq_core.specs.Workqueues.{Workqueues, wiring_of}
use Rattle.wq_core.specs.Deadlock.{Deadlocks}
use Rattle.wq_repair.specs.Changes.{IsRescued, IsBare, IsNamed, IsNamedLane, HasMoved, IsGiven, IsToBeCompared}
use Rattle.wq_repair.specs.Changes.{HasFewerChanges, lane_in}
use Rattle.wq_repair.specs.Marks.{IsMarked}
use Rattle.wq_repair.specs.Needed.{NeedsRescuer, NeedsRescuerOf}

-- vertex u becomes vertex v
abbrev pub become : ℕ → ℕ → ℕ → ℕ
become u v x = if x == u then v else x

-- one group waits for another, and both need a rescuer
abbrev pub NeededWaits : Declaration → Workqueues → ℕ → ℕ → Type 0
NeededWaits d old g h = NeedsRescuer d old g × GroupWaits d g h

-- lanes that wait for one another in a circle, where each has a rescuer
abbrev pub HangsRound : Declaration → Workqueues → Type 0
HangsRound d ws = Circle (RescuedWaits (wiring_of d ws))

-- the start: each group that may move and needs a rescuer has one for itself, and all others are where they were. Only
-- groups that need a rescuer are on a lane with one. A lane that may be given a rescuer has one if a group that needs
-- it can't leave
pub record IsStart (d : Declaration) (old : Workqueues) (names : List ℕ) (start : Workqueues) : Type 0 where
  pub compared : IsToBeCompared d old names start
  pub needed : (g : ℕ) → g < d.groups → IsRescued start (lane_in start g) → NeedsRescuerOf d old names g
  pub rescued : (g : ℕ) → g < d.groups → IsNamed d names g → NeedsRescuerOf d old names g
      → IsRescued start (lane_in start g)
  pub alone : (g h : ℕ) → g < d.groups → h < d.groups → IsNamed d names g → NeedsRescuerOf d old names g
      → lane_in start g ≡ lane_in start h → g ≡ h
  pub given : (g : ℕ) → g < d.groups → (¬ IsNamed d names g) → NeedsRescuerOf d old names g
      → IsNamedLane d old names (lane_in old g) → IsRescued start (lane_in old g)

-- whatever may be compared and has only some of these changes gives a rescuer to each of these groups, or deadlocks
abbrev pub NeedRescuers : Declaration → Workqueues → List ℕ → Workqueues → List Bool → Type 0
NeedRescuers d old names new needed = (fewer : Workqueues) → IsToBeCompared d old names fewer
    → HasFewerChanges d old fewer new → (g : ℕ) → g < d.groups → IsMarked needed g
    → IsRescued fewer (lane_in fewer g) ⊎ Deadlocks (wiring_of d fewer)

-- the group can't stay: it needs a rescuer, and its lane has none, neither before nor now
pub record HasToLeave (old new : Workqueues) (needed : List Bool) (g : ℕ) : Type 0 where
  pub needs : IsMarked needed g
  pub bare : IsBare old (lane_in old g)
  pub still_bare : IsBare new (lane_in old g)

-- the group stays, or is the one that is tried
abbrev pub StaysOrIs : Workqueues → Workqueues → ℕ → ℕ → Type 0
StaysOrIs old new g h = (h ≡ g) ⊎ (lane_in new h ≡ lane_in old h)

-- one vertex waits for another: a group at the first waits for one at the second, and both need a rescuer. `at` has the
-- vertex of each group
pub record VerticesWait (d : Declaration) (needed : List Bool) (at : List ℕ) (v w : ℕ) : Type 0 where
  pub group : ℕ
  pub awaited : ℕ
  pub waits : GroupWaits d group awaited
  pub needs : IsMarked needed group
  pub also : IsMarked needed awaited
  pub from : slice_index at group ≡ v
  pub to : slice_index at awaited ≡ w

-- the group was tried in vain: with it and some of those that stay on their old lanes, and all others alone, there is a
-- circle among groups that need a rescuer. `at` has the vertex of each group
pub record IsTriedInVain (d : Declaration) (old new : Workqueues) (needed : List Bool) (g : ℕ) : Type 0 where
  pub at : List ℕ
  pub together : (h k : ℕ) → h < d.groups → k < d.groups → IsMarked needed h → IsMarked needed k
      → slice_index at h ≡ slice_index at k
      → (h ≡ k) ⊎ (StaysOrIs old new g h × StaysOrIs old new g k × (lane_in old h ≡ lane_in old k))
  pub circle : Circle (VerticesWait d needed at)

-- why no change can be left out: each group that moved has to leave or was tried in vain, and what is on a lane that is
-- given a rescuer needs it
pub record AreChangesNeeded (d : Declaration) (old new : Workqueues) (needed : List Bool) : Type 0 where
  pub moved : (g : ℕ) → g < d.groups → HasMoved old new g
      → HasToLeave old new needed g ⊎ IsTriedInVain d old new needed g
  pub given : (g : ℕ) → g < d.groups → IsGiven d old new (lane_in old g) → IsMarked needed g

-- a number for each lane, which falls from lane to lane along each wait of a group that needs a rescuer. Exactly the
-- groups that need one are on lanes that have one
pub record FallsAlongWaits (d : Declaration) (new : Workqueues) (needed : List Bool) (number : ℕ → ℕ) : Type 0 where
  pub only : (g : ℕ) → g < d.groups → IsRescued new (lane_in new g) → IsMarked needed g
  pub rescued : (g : ℕ) → g < d.groups → IsMarked needed g → IsRescued new (lane_in new g)
  pub next : (g h : ℕ) → GroupWaits d g h → IsMarked needed g → IsMarked needed h
  pub falls : (g h : ℕ) → GroupWaits d g h → IsMarked needed g → number (lane_in new h) < number (lane_in new g)
