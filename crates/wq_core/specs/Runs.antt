-- Runs: lists of steps of any length, each lawful when it is made.
use Rattle.std.specs.Prelude.{◌≡◌, ℕ, ◌<◌, List, [], ◌∷◌, length, slice_get, ⊤, MatchBool, Some, Bool, true, false}
use Rattle.std.specs.Prelude.{◌==◌}
use Rattle.std.specs.List.{All, count_by}
use Rattle.wq_items.specs.declared.target.Target.{Target}
use Rattle.wq_core.specs.declared.entry.Running.{Running}
use Rattle.wq_core.specs.declared.step.Step.{Step}
use Rattle.wq_core.specs.declared.step.Step.TheVariants.{Queue, Cancel, Start, Wait, WaitAll, Finish, Help}
use Rattle.wq_core.specs.declared.step.HelpStep.{HelpStep}
use Rattle.wq_core.specs.declared.step.HelpStep.TheVariants.{Start as DoStart, Wait as DoWait, WaitAll as DoWaitAll}
use Rattle.wq_core.specs.declared.step.HelpStep.TheVariants.{Finish as DoFinish}
use Rattle.wq_core.specs.Wiring.{Wiring, HasRescuer, items, declared_by}
use Rattle.wq_core.specs.State.{State, lane_at, empty_state, RunsIn}
use Rattle.wq_core.specs.Rules.{Lawful, effect}

-- the state after these steps
abbrev pub after : Wiring → State → List Step → State
after w s [] = s
after w s (step ∷ steps) = after w (effect w s step) steps

-- each step is lawful in the state after the steps before it
abbrev pub IsRunFrom : Wiring → State → List Step → Type 0
IsRunFrom w s [] = ⊤
IsRunFrom w s (step ∷ steps) = Lawful w s step × IsRunFrom w (effect w s step) steps

-- a run begins before anything is queued
abbrev pub IsRun : Wiring → List Step → Type 0
IsRun w steps = IsRunFrom w (empty_state w) steps

-- the state after a run
abbrev pub end_of : Wiring → List Step → State
end_of w steps = after w (empty_state w) steps

-- a step of a rescuer or of a helper: a start, a wait, the end of a wait, or a finish
abbrev pub is_rescuer_step : Step → Bool
is_rescuer_step (Queue i) = false
is_rescuer_step (Cancel i) = false
is_rescuer_step _ = true

-- a rescuer or a helper makes the step
abbrev pub IsRescuerStep : Step → Type 0
IsRescuerStep step = MatchBool (is_rescuer_step step) ⊤ ⊥

-- a helper makes the step
abbrev pub IsHelp : Step → Type 0
IsHelp (Help q h deed) = ⊤
IsHelp _ = ⊥

-- no helper makes one of the steps
abbrev pub HasNoHelp : List Step → Type 0
HasNoHelp steps = All (λ (step : Step). ¬ IsHelp step) steps

-- the context goes on with what it runs: it does anything but a start
abbrev pub GoesOn : HelpStep → Type 0
GoesOn (DoStart i) = ⊥
GoesOn _ = ⊤

-- any step but a queueing, a cancellation, a helper's start and a start on a bare lane: what goes on though nobody
-- queues or cancels, and no helper and no worker comes
abbrev pub IsForcedStep : Wiring → Step → Type 0
IsForcedStep w (Queue i) = ⊥
IsForcedStep w (Cancel i) = ⊥
IsForcedStep w (Start q i) = HasRescuer w q
IsForcedStep w (Help q h deed) = GoesOn deed
IsForcedStep w _ = ⊤

-- ---- executions that flush as declared

-- context c of lane q runs an item whose next declared target is item b, of this kind
abbrev pub IsNextWait : Wiring → State → ℕ → ℕ → Bool → ℕ → Type 0
IsNextWait w s q c whole b = (r : Running) × RunsIn (lane_at s q) c r
    × ((t : Target) × (slice_get (declared_by w r.entry.item) r.made ≡ Some t) × (t.item ≡ b) × (t.whole ≡ whole))

-- this deed of context c of lane q is in the declared order: its next wait is for the next declared target, of the kind
-- that is declared there, and it finishes after the last
abbrev pub KeepsOrderIn : Wiring → State → ℕ → ℕ → HelpStep → Type 0
KeepsOrderIn w s q c (DoWait b) = IsNextWait w s q c false b
KeepsOrderIn w s q c (DoWaitAll b) = IsNextWait w s q c true b
KeepsOrderIn w s q c (DoFinish i) =
    (r : Running) × RunsIn (lane_at s q) c r × (r.made ≡ length (declared_by w r.entry.item))
KeepsOrderIn w s q c _ = ⊤

-- what runs keeps to the order of its declaration, in each context
abbrev pub KeepsOrder : Wiring → State → Step → Type 0
KeepsOrder w s (Wait q b) = KeepsOrderIn w s q 0 (DoWait b)
KeepsOrder w s (WaitAll q b) = KeepsOrderIn w s q 0 (DoWaitAll b)
KeepsOrder w s (Finish q i) = KeepsOrderIn w s q 0 (DoFinish i)
KeepsOrder w s (Help q h deed) = KeepsOrderIn w s q h deed
KeepsOrder w s _ = ⊤

-- each execution makes the waits that its item declares, in their order, and finishes only after the last
abbrev pub AsDeclaredFrom : Wiring → State → List Step → Type 0
AsDeclaredFrom w s [] = ⊤
AsDeclaredFrom w s (step ∷ steps) = KeepsOrder w s step × AsDeclaredFrom w (effect w s step) steps

-- ---- items that are queued once

-- the step queues item i
abbrev pub queues : ℕ → Step → Bool
queues i (Queue j) = j == i
queues i _ = false

-- the step cancels an item
abbrev pub IsCancel : Step → Type 0
IsCancel (Cancel i) = ⊤
IsCancel _ = ⊥

-- each item is queued exactly once, and none is cancelled
pub record IsOnce (w : Wiring) (steps : List Step) : Type 0 where
  pub queued : (i : ℕ) → i < items w → count_by (λ (step : Step). queues i step) steps ≡ 1
  pub uncancelled : All (λ (step : Step). ¬ IsCancel step) steps
