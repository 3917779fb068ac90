-- How a list of steps ends if it is made from the empty state.
use Rattle.std.specs.Prelude.{◌≡◌, ℕ, ◌-◌, ◌<◌, List, take, slice_get, Some}
use Rattle.wq_core.specs.declared.step.Step.{Step}
use Rattle.wq_core.specs.Wiring.{Wiring}
use Rattle.wq_core.specs.Rules.{Lawful}
use Rattle.wq_core.specs.Runs.{IsRun, end_of}
use Rattle.wq_core.specs.Deadlock.{IsStuck, DeadlocksBy}
use Rattle.wq_core.specs.MustGoOn.{IsStuckFor, DeadlocksFor}
use Rattle.wq_checker.specs.declared.run.RunEnd.{RunEnd}
use Rattle.wq_checker.specs.declared.run.RunEnd.TheVariants.{NotLawful, Deadlock, Stuck, Free}

-- step n, counted from 1, is the first that isn't lawful
pub record IsFirstUnlawful (w : Wiring) (steps : List Step) (n : ℕ) : Type 0 where
  pub from_one : 0 < n
  pub step : Step
  pub stands : slice_get steps (n - 1) ≡ Some step
  pub before : IsRun w (take (n - 1) steps)
  pub unlawful : ¬ Lawful w (end_of w (take (n - 1) steps)) step

-- the steps end like this: at the first one that isn't lawful; or as a run that deadlocks, ends stuck in another way,
-- or doesn't end stuck
abbrev pub EndsAs : Wiring → List Step → RunEnd → Type 0
EndsAs w steps (NotLawful n) = IsFirstUnlawful w steps n
EndsAs w steps Deadlock = DeadlocksBy w steps
EndsAs w steps Stuck = IsRun w steps × IsStuck w (end_of w steps) × (¬ DeadlocksBy w steps)
EndsAs w steps Free = IsRun w steps × (¬ IsStuck w (end_of w steps))

-- the same where these items must go on: it is asked whether the steps end stuck for them
abbrev pub EndsFor : Wiring → List ℕ → List Step → RunEnd → Type 0
EndsFor w named steps (NotLawful n) = IsFirstUnlawful w steps n
EndsFor w named steps Deadlock = DeadlocksFor w named steps
EndsFor w named steps Stuck =
    IsRun w steps × IsStuckFor w named (end_of w steps) × (¬ DeadlocksFor w named steps)
EndsFor w named steps Free = IsRun w steps × (¬ IsStuckFor w named (end_of w steps))
