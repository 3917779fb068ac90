-- Shortest hangs: runs that end stuck, while no run that ends stuck has fewer steps. With unsure flushes it is first
-- asked in which readings a run ends stuck.
use Rattle.std.specs.Prelude.{ℕ, ◌<◌, ◌≤◌, List, length, ⊤}
use Rattle.std.specs.List.{All}
use Rattle.wq_core.specs.declared.step.Step.{Step}
use Rattle.wq_core.specs.declared.step.Step.TheVariants.{Start, Help}
use Rattle.wq_core.specs.Wiring.{Wiring, HasRescuer, with_helpers, max_helpers}
use Rattle.wq_core.specs.Runs.{IsRun, end_of}
use Rattle.wq_core.specs.Deadlock.{IsStuck, IsSafe}
use Rattle.wq_core.specs.Readings.{reading}

-- with this many helpers of each lane, the steps are a run that ends stuck
abbrev pub EndsStuck : Wiring → ℕ → List Step → Type 0
EndsStuck w n steps = IsRun (with_helpers w n) steps × IsStuck (with_helpers w n) (end_of (with_helpers w n) steps)

-- a worker makes the step that nobody can rely on: a helper, or the one that starts something on a bare lane
abbrev pub NeedsWorker : Wiring → Step → Type 0
NeedsWorker w (Start q i) = ¬ HasRescuer w q
NeedsWorker w (Help q h deed) = ⊤
NeedsWorker w _ = ⊥

-- with 0 to 8 helpers alike the steps are a run that ends stuck; none of them needs a worker that nobody can rely on;
-- and no run that ends stuck, with 0 to 8 helpers, has fewer steps
pub record IsShortestHang (w : Wiring) (steps : List Step) : Type 0 where
  pub hangs : (n : ℕ) → n ≤ max_helpers → EndsStuck w n steps
  pub alone : All (λ (step : Step). ¬ NeedsWorker w step) steps
  pub shortest : (n : ℕ) → n ≤ max_helpers → (others : List Step) → EndsStuck w n others → length steps ≤ length others

-- a shortest run that ends stuck of the reading that keeps the unsure flushes at these places. No reading that keeps
-- fewer of them hangs; and no run that ends stuck, of a reading that keeps at most as many, has fewer steps
pub record IsFewest (w : Wiring) (kept : List ℕ) (steps : List Step) : Type 0 where
  pub hang : IsShortestHang (reading w kept) steps
  pub fewest : (others : List ℕ) → length others < length kept → IsSafe (reading w others)
  pub soonest : (others : List ℕ) → length others ≤ length kept
      → (n : ℕ) → n ≤ max_helpers → (more : List Step) → EndsStuck (reading w others) n more
      → length steps ≤ length more
