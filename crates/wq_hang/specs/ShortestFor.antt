-- Shortest runs by which an item that must go on is held up. With unsure flushes it is first asked in which readings
-- there is one.
use Rattle.std.specs.Prelude.{ℕ, ◌<◌, ◌≤◌, List, length}
use Rattle.std.specs.List.{All}
use Rattle.wq_core.specs.declared.step.Step.{Step}
use Rattle.wq_core.specs.Wiring.{Wiring, with_helpers, max_helpers}
use Rattle.wq_core.specs.Runs.{IsRun, end_of}
use Rattle.wq_core.specs.MustGoOn.{IsStuckFor, IsSafeFor}
use Rattle.wq_core.specs.Readings.{reading}
use Rattle.wq_hang.specs.Shortest.{NeedsWorker}

-- with this many helpers of each lane, the steps are a run that ends stuck for these items
abbrev pub EndsStuckFor : Wiring → List ℕ → ℕ → List Step → Type 0
EndsStuckFor w named n steps =
    IsRun (with_helpers w n) steps × IsStuckFor (with_helpers w n) named (end_of (with_helpers w n) steps)

-- with 0 to 8 helpers alike the steps are a run that ends stuck for these items; none of them needs a worker that
-- nobody can rely on; and no run that ends stuck for them, with 0 to 8 helpers, has fewer steps
pub record IsShortestFor (w : Wiring) (named : List ℕ) (steps : List Step) : Type 0 where
  pub hangs : (n : ℕ) → n ≤ max_helpers → EndsStuckFor w named n steps
  pub alone : All (λ (step : Step). ¬ NeedsWorker w step) steps
  pub shortest : (n : ℕ) → n ≤ max_helpers → (others : List Step) → EndsStuckFor w named n others
      → length steps ≤ length others

-- a shortest run that ends stuck for these items, of the reading that keeps the unsure flushes at these places. No
-- reading that keeps fewer of them has one; and no run that ends stuck for them, of a reading that keeps at most as
-- many, has fewer steps
pub record IsFewestFor (w : Wiring) (named kept : List ℕ) (steps : List Step) : Type 0 where
  pub hang : IsShortestFor (reading w kept) named steps
  pub fewest : (others : List ℕ) → length others < length kept → IsSafeFor (reading w others) named
  pub soonest : (others : List ℕ) → length others ≤ length kept
      → (n : ℕ) → n ≤ max_helpers → (more : List Step) → EndsStuckFor (reading w others) named n more
      → length steps ≤ length more
