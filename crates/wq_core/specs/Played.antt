-- The run that is played: each step is that of the lowest lane whose rescuer can
-- move, and executions flush as declared.
use Rattle.std.specs.Prelude.{◌≡◌, ℕ, ◌<◌, ◌⊎◌, not, ◌==◌, List, [], ◌∷◌, ◌++◌, filter, map}
use Rattle.std.specs.List.{list_any, range_with_len}
use Rattle.wq_core.specs.declared.step.Step.{Step}
use Rattle.wq_core.specs.declared.step.Step.TheVariants.{Queue, Start, Wait, Over, WaitAll, OverAll, Finish, Help}
use Rattle.wq_core.specs.declared.step.HelpStep.{HelpStep}
use Rattle.wq_core.specs.Wiring.{Wiring, items}
use Rattle.wq_core.specs.State.{State}
use Rattle.wq_core.specs.Rules.{Lawful, effect}
use Rattle.wq_core.specs.Runs.{IsForcedStep, KeepsOrder, GoesOn}

-- the rescuer of lane q makes the step
abbrev pub IsStepOfLane : ℕ → Step → Type 0
IsStepOfLane q (Start p i) = p ≡ q
IsStepOfLane q (Wait p b) = p ≡ q
IsStepOfLane q (Over p b) = p ≡ q
IsStepOfLane q (WaitAll p b) = p ≡ q
IsStepOfLane q (OverAll p b) = p ≡ q
IsStepOfLane q (Finish p i) = p ≡ q
IsStepOfLane q _ = ⊥

-- the rescuer of lane q can make a step, or on a bare lane what its worker runs goes on
abbrev pub RescuerCanMove : Wiring → State → ℕ → Type 0
RescuerCanMove w s q = (step : Step) × IsStepOfLane q step × Lawful w s step × IsForcedStep w step

-- helper h of lane q can make a step other than a start
abbrev pub HelperGoesOn : Wiring → State → ℕ → ℕ → Type 0
HelperGoesOn w s q h = (deed : HelpStep) × GoesOn deed × Lawful w s (Help q h deed)

-- lane q can make a step other than a helper's start and, if it is bare, any start
abbrev pub CanMove : Wiring → State → ℕ → Type 0
CanMove w s q = RescuerCanMove w s q ⊎ ((h : ℕ) × HelperGoesOn w s q h)

-- the step that the rescuer of lane q can make if its executions flush as declared; on a bare lane it is no start
pub record IsDeclaredStep (w : Wiring) (s : State) (q : ℕ) (step : Step) : Type 0 where
  pub of_lane : IsStepOfLane q step
  pub lawful : Lawful w s step
  pub forced : IsForcedStep w step
  pub in_order : KeepsOrder w s step

-- it can make no such step
abbrev pub HasNoDeclaredStep : Wiring → State → ℕ → Type 0
HasNoDeclaredStep w s q = (step : Step) → ¬ IsDeclaredStep w s q step

-- each step is that of the lowest lane whose rescuer can make one, and at the end none can
abbrev pub IsPlayedFrom : Wiring → State → List Step → Type 0
IsPlayedFrom w s [] = (q : ℕ) → HasNoDeclaredStep w s q
IsPlayedFrom w s (step ∷ steps) =
    ((q : ℕ) × IsDeclaredStep w s q step × ((p : ℕ) → p < q → HasNoDeclaredStep w s p))
    × IsPlayedFrom w (effect w s step) steps

-- these items are queued first, in their order, and then all others, in declaration order
abbrev pub queue_order : Wiring → List ℕ → List Step
queue_order w first = map Queue (first ++ filter (λ i. not (list_any (λ j. i == j) first)) (range_with_len 0 (items w)))
