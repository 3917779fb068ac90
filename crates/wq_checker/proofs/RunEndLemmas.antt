-- How a list of steps ends.
use Rattle.std.proofs.Common.{◌≡◌, ◌↔◌, ℕ, ◌-◌, List, refl}
use Rattle.wq_core.specs.declared.step.Step.{Step}
use Rattle.wq_core.specs.Wiring.{Wiring}
use Rattle.wq_core.specs.State.{empty_state}
use Rattle.wq_core.specs.Runs.{IsRun}
use Rattle.wq_core.specs.Deadlock.{DeadlocksBy}
use Rattle.wq_checker.specs.declared.run.RunEnd.{RunEnd}
use Rattle.wq_checker.specs.declared.run.RunEnd.TheVariants.{NotLawful, Deadlock, Stuck, Free}
use Rattle.wq_checker.specs.RunEnds.{IsFirstUnlawful, EndsAs}
use Rattle.wq_core.proofs.RunLemmas.{IsRunFrom-at}

module _ (w : Wiring) (steps : List Step) where
  -- a list with a step that isn't lawful isn't a run
  pub IsRun-unlawful : (n : ℕ) → IsFirstUnlawful w steps n → ¬ IsRun w steps
  IsRun-unlawful n is run = is.unlawful (IsRunFrom-at w (empty_state w) steps (n - 1) is.step run is.stands)

  -- only a deadlock is one
  pub EndsAs-deadlocks : (end : RunEnd) → EndsAs w steps end → (end ≡ Deadlock) ↔ DeadlocksBy w steps
  EndsAs-deadlocks (NotLawful n) is = ((λ e. absurd cc), (λ h. absurd (IsRun-unlawful n is h.run)))
  EndsAs-deadlocks Deadlock is = ((λ e. is), (λ h. refl))
  EndsAs-deadlocks Stuck is = ((λ e. absurd cc), (λ h. absurd (is.2 h)))
  EndsAs-deadlocks Free is = ((λ e. absurd cc), (λ h. absurd (is.1 h.stuck)))
