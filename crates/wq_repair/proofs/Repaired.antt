-- What is to be compared, and all whose changes are needed, and in which numbers fall along all waits, is a repair.
use Rattle.std.proofs.Common.{ℕ, ◌<◌, ◌≤◌, ◌⊎◌, Bool, List, length}
use Rattle.std.specs.Prelude.{max}
use Rattle.wq_groups.specs.Declaration.{Declaration, IsDeclaration}
use Rattle.wq_core.specs.Workqueues.{Workqueues, wiring_of}
use Rattle.wq_core.specs.Deadlock.{Deadlocks}
use Rattle.wq_repair.specs.Changes.{IsRescued, HoldsAny, HasMoved, IsNamedLane, IsToBeCompared, lane_in}
use Rattle.wq_repair.specs.Joined.{NeedRescuers, AreChangesNeeded, FallsAlongWaits}
use Rattle.wq_repair.specs.Repair.{IsRepair}
use Rattle.wq_repair.proofs.Falling.{IsSafe-falling}
use Rattle.wq_repair.proofs.Minimal.{Deadlocks-fewer}

pub IsRepair-needed : (d : Declaration) (old new : Workqueues) (names : List ℕ) (needed : List Bool) (number : ℕ → ℕ) → IsDeclaration d
    → Deadlocks (wiring_of d old) → IsToBeCompared d old names new → NeedRescuers d old names new needed → AreChangesNeeded d old new needed
    → FallsAlongWaits d new needed number → new.assignment.lanes ≤ max old.assignment.lanes d.groups → length new.bare ≤ new.assignment.lanes
    → ((q : ℕ) → old.assignment.lanes ≤ q → q < new.assignment.lanes → HoldsAny new q)
    → ((q : ℕ) → q < old.assignment.lanes → IsRescued new q → IsRescued old q ⊎ HoldsAny new q)
    → ((g : ℕ) → g < d.groups → HasMoved old new g → HoldsAny old (lane_in new g)
    → IsNamedLane d old names (lane_in new g))
    → IsRepair d old names new
IsRepair-needed d old new names needed number declaration dead compared need are falls few bare used only to = record {
  deadlocked = dead;
  compared = compared;
  safe = IsSafe-falling d new needed number declaration compared.assignment falls;
  minimal = λ fewer other less. Deadlocks-fewer d old new fewer names needed declaration (need fewer other less) are other less;
  few = few;
  bare = bare;
  used = used;
  only = only;
  hosted = to;
}
