-- Deadlocks: runs that end stuck, and assignments that have none.
use Rattle.std.specs.Prelude.{ℕ, ◌<◌, ◌≤◌, List}
use Rattle.wq_groups.specs.Declaration.{Declaration}
use Rattle.wq_groups.specs.Assignment.{Assignment, IsAssignment}
use Rattle.wq_core.specs.declared.step.Step.{Step}
use Rattle.wq_core.specs.Wiring.{Wiring, HasRescuer, wiring, with_helpers, max_helpers}
use Rattle.wq_core.specs.State.{State, HasUnfinished, empty_state}
use Rattle.wq_core.specs.Rules.{Lawful}
use Rattle.wq_core.specs.Runs.{IsRun, end_of, IsForcedStep, AsDeclaredFrom, IsOnce, HasNoHelp}

-- an entry is unfinished on a lane that has a rescuer, and no step is lawful but queueings, cancellations, starts of
-- helpers and starts on bare lanes
pub record IsStuck (w : Wiring) (s : State) : Type 0 where
  pub left : HasUnfinished s
  pub rescuer : HasRescuer w left.lane
  pub no_step : (step : Step) → IsForcedStep w step → ¬ Lawful w s step

-- with 0 to 8 helpers of each lane, no run ends stuck. This says something about an assignment only if each item is on
-- one of the lanes, which has to be said beside it (`IsLeast` says it by `IsAssignment`)
abbrev pub IsSafe : Wiring → Type 0
IsSafe w = (n : ℕ) → n ≤ max_helpers →
    (steps : List Step) → IsRun (with_helpers w n) steps
    → ¬ IsStuck (with_helpers w n) (end_of (with_helpers w n) steps)

-- the steps are a run that ends stuck, with each item queued once and flushing as
-- declared, and none of them is a helper's
pub record DeadlocksBy (w : Wiring) (steps : List Step) : Type 0 where
  pub run : IsRun w steps
  pub once : IsOnce w steps
  pub as_declared : AsDeclaredFrom w (empty_state w) steps
  pub no_help : HasNoHelp steps
  pub stuck : IsStuck w (end_of w steps)

-- one run deadlocks in this way, the same under each number of helpers
abbrev pub Deadlocks : Wiring → Type 0
Deadlocks w = (steps : List Step) × ((n : ℕ) → n ≤ max_helpers → DeadlocksBy (with_helpers w n) steps)

-- an assignment of the declaration's groups is safe, and every assignment to fewer lanes deadlocks
pub record IsLeast (d : Declaration) (a : Assignment) : Type 0 where
  pub assignment : IsAssignment d.groups a
  pub safe : IsSafe (wiring d a)
  pub fewer : (b : Assignment) → IsAssignment d.groups b → b.lanes < a.lanes → Deadlocks (wiring d b)
