-- Repairs: workqueues made safe, with no change that could be left out.
use Rattle.std.specs.Prelude.{ℕ, ◌<◌, ◌≤◌, ◌⊎◌, max, Bool, List, length}
use Rattle.wq_items.specs.Chain.{Circle}
use Rattle.wq_groups.specs.Declaration.{Declaration}
use Rattle.wq_graph.specs.declared.arc.WaitArc.{WaitArc}
use Rattle.wq_graph.specs.Graph.{group_graph, without}
use Rattle.wq_levels.specs.Walks.{IsWalkedCircle}
use Rattle.wq_core.specs.declared.step.Step.{Step}
use Rattle.wq_core.specs.Workqueues.{Workqueues, wiring_of}
use Rattle.wq_core.specs.Deadlock.{IsSafe, Deadlocks}
use Rattle.wq_deadlock.specs.Judging.{AreSafe, IsHang}
use Rattle.wq_repair.specs.declared.answer.Answer.{Answer}
use Rattle.wq_repair.specs.declared.answer.Answer.TheVariants as answer
use Rattle.wq_repair.specs.Changes.{IsRescued, HoldsAny, IsNamed, IsNamedLane, lane_in}
use Rattle.wq_repair.specs.Changes.{HasMoved, IsToBeCompared, HasFewerChanges}
use Rattle.wq_repair.specs.Needed.{AreUnneeded}
use Rattle.wq_repair.specs.Joined.{NeededWaits, IsStart}

-- the old workqueues deadlock and the new ones are safe; and whatever has only some of the changes deadlocks. No more
-- lanes are made than there are groups, and the list that says which are bare isn't longer than they. A group is on
-- each new lane, and on each old one that has a rescuer now and had none. A group that moved to a lane that held groups
-- moved to one that held a movable group
pub record IsRepair (d : Declaration) (old : Workqueues) (names : List ℕ) (new : Workqueues) : Type 0 where
  pub deadlocked : Deadlocks (wiring_of d old)
  pub compared : IsToBeCompared d old names new
  pub safe : IsSafe (wiring_of d new)
  pub minimal : (fewer : Workqueues) → IsToBeCompared d old names fewer → HasFewerChanges d old fewer new
      → Deadlocks (wiring_of d fewer)
  pub few : new.assignment.lanes ≤ max old.assignment.lanes d.groups
  pub bare : length new.bare ≤ new.assignment.lanes
  pub used : (q : ℕ) → old.assignment.lanes ≤ q → q < new.assignment.lanes → HoldsAny new q
  pub only : (q : ℕ) → q < old.assignment.lanes → IsRescued new q → IsRescued old q ⊎ HoldsAny new q
  pub hosted : (g : ℕ) → g < d.groups → HasMoved old new g → HoldsAny old (lane_in new g)
      → IsNamedLane d old names (lane_in new g)

-- no groups that need a rescuer wait in a circle; but a group may not move, and whatever may be compared deadlocks. The
-- steps are the run that shows it of this start, in which each group that may move and needs a rescuer is alone. No
-- more lanes are made than there are groups, and the list that says which are bare isn't longer than they
pub record AreNamesTooFew (d : Declaration) (old : Workqueues) (names : List ℕ) (start : Workqueues) (steps : List Step)
    : Type 0 where
  pub no_circle : ¬ Circle (NeededWaits d old)
  pub some_stay : (g : ℕ) × (g < d.groups) × (¬ IsNamed d names g)
  pub compared : IsToBeCompared d old names start
  pub is : IsStart d old names start
  pub few : start.assignment.lanes ≤ max old.assignment.lanes d.groups
  pub bare : length start.bare ≤ start.assignment.lanes
  pub hang : IsHang d start steps
  pub all : (new : Workqueues) → IsToBeCompared d old names new → Deadlocks (wiring_of d new)

-- groups that need a rescuer wait in this circle, which is that of the walk among them; and whatever may be compared
-- deadlocks, whichever groups may move
pub record IsNeededCircle (d : Declaration) (old : Workqueues) (circle : List WaitArc) : Type 0 where
  pub out : List Bool
  pub needed : AreUnneeded d old out
  pub walked : IsWalkedCircle (without out (group_graph d)) circle
  pub all : (names : List ℕ) (new : Workqueues) → IsToBeCompared d old names new → Deadlocks (wiring_of d new)

-- what an answer means
abbrev pub IsAnswer : {A : Type 0} → Declaration → Workqueues → List ℕ → Answer A → Type 0
IsAnswer d old names answer.Safe = AreSafe d old
IsAnswer d old names (answer.Repaired new) = IsRepair d old names new
IsAnswer d old names (answer.TooFewNames start steps) = AreNamesTooFew d old names start steps.items
IsAnswer d old names (answer.Circle arcs) = IsNeededCircle d old arcs.items
