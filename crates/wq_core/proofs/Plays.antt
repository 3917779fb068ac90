-- Played runs: they are runs, they flush as declared, no helper makes a step of them, and at their end no context goes on.
use Rattle.std.proofs.Common.{◌≡◌, ℕ, zero, suc, ◌<◌, ◌≤◌, inl, inr, List, [], ◌∷◌, ◌++◌, length, map, Some, None, refl, arith}
use Rattle.std.specs.Prelude.{slice_get}
use Rattle.std.specs.List.{All, Any, count_by}
use Rattle.std.proofs.lemmas.Bool.{cases_lt}
use Rattle.std.proofs.lemmas.List.Elements.{All-nil, All-cons}
use Rattle.std.proofs.lemmas.List.Sums.{sum_by-cons}
use Rattle.wq_items.specs.declared.target.Target.{Target}
use Rattle.wq_core.specs.declared.entry.Running.{Running}
use Rattle.wq_core.specs.declared.step.Step.{Step}
use Rattle.wq_core.specs.declared.step.Step.TheVariants.{Queue, Cancel, Start, Wait, Over, WaitAll, OverAll, Finish, Help}
use Rattle.wq_core.specs.Wiring.{Wiring, declared_by}
use Rattle.wq_core.specs.State.{State, lane_at, Runs}
use Rattle.wq_core.specs.Rules.{Lawful, effect, wait_of}
use Rattle.wq_core.specs.Runs.{after, IsRunFrom, IsRescuerStep, IsForcedStep, IsHelp, HasNoHelp, AsDeclaredFrom, IsCancel, queues}
use Rattle.wq_core.specs.Held.{IsSoundState}
use Rattle.wq_core.specs.Played.{IsStepOfLane, IsDeclaredStep, HasNoDeclaredStep, IsPlayedFrom}
use Rattle.wq_core.proofs.Helpers.{OnlyRescuersRun, no_helper-goes_on}
use Rattle.wq_core.proofs.WaitSteps.{lawful-waits, in_order-next, of_lane-wait_of, forced-wait_of}
use Rattle.wq_core.proofs.Queued.{one_if}

-- ---- one run after another

pub after-append : (w : Wiring) (s : State) (steps more : List Step) → after w s (steps ++ more) ≡ after w (after w s steps) more
after-append w s [] more = refl
after-append w s (step ∷ steps) more = after-append w (effect w s step) steps more

pub IsRunFrom-append : (w : Wiring) (s : State) (steps more : List Step) → IsRunFrom w s steps → IsRunFrom w (after w s steps) more → IsRunFrom w s (steps ++ more)
IsRunFrom-append w s [] more run on = on
IsRunFrom-append w s (step ∷ steps) more run on = (run.0, IsRunFrom-append w (effect w s step) steps more run.1 on)

pub AsDeclaredFrom-append : (w : Wiring) (s : State) (steps more : List Step) → AsDeclaredFrom w s steps → AsDeclaredFrom w (after w s steps) more → AsDeclaredFrom w s (steps ++ more)
AsDeclaredFrom-append w s [] more run on = on
AsDeclaredFrom-append w s (step ∷ steps) more run on = (run.0, AsDeclaredFrom-append w (effect w s step) steps more run.1 on)

-- ---- queueings

pub AsDeclaredFrom-queued : (w : Wiring) (is : List ℕ) (s : State) → AsDeclaredFrom w s (map Queue is)
AsDeclaredFrom-queued w [] s = tt
AsDeclaredFrom-queued w (i ∷ is) s = (tt, AsDeclaredFrom-queued w is (effect w s (Queue i)))

pub no_cancel-queued : (is : List ℕ) → All (λ (step : Step). ¬ IsCancel step) (map Queue is)
no_cancel-queued [] = All-nil (λ (step : Step). ¬ IsCancel step)
no_cancel-queued (i ∷ is) = All-cons (λ (step : Step). ¬ IsCancel step) (Queue i) (map Queue is) (λ cancel. cancel) (no_cancel-queued is)

pub no_help-queued : (is : List ℕ) → HasNoHelp (map Queue is)
no_help-queued [] = All-nil (λ (step : Step). ¬ IsHelp step)
no_help-queued (i ∷ is) = All-cons (λ (step : Step). ¬ IsHelp step) (Queue i) (map Queue is) (λ help. help) (no_help-queued is)

-- ---- steps of a lane

pub IsRescuerStep-of_lane : (q : ℕ) (step : Step) → IsStepOfLane q step → IsRescuerStep step
IsRescuerStep-of_lane q (Queue i) is = is
IsRescuerStep-of_lane q (Cancel i) is = is
IsRescuerStep-of_lane q (Start p i) is = tt
IsRescuerStep-of_lane q (Wait p b) is = tt
IsRescuerStep-of_lane q (Over p b) is = tt
IsRescuerStep-of_lane q (WaitAll p b) is = tt
IsRescuerStep-of_lane q (OverAll p b) is = tt
IsRescuerStep-of_lane q (Finish p i) is = tt
IsRescuerStep-of_lane q (Help p h deed) is = absurd is

no_cancel-of_lane : (q : ℕ) (step : Step) → IsStepOfLane q step → ¬ IsCancel step
no_cancel-of_lane q (Queue i) is cancel = cancel
no_cancel-of_lane q (Cancel i) is cancel = is
no_cancel-of_lane q (Start p i) is cancel = cancel
no_cancel-of_lane q (Wait p b) is cancel = cancel
no_cancel-of_lane q (Over p b) is cancel = cancel
no_cancel-of_lane q (WaitAll p b) is cancel = cancel
no_cancel-of_lane q (OverAll p b) is cancel = cancel
no_cancel-of_lane q (Finish p i) is cancel = cancel
no_cancel-of_lane q (Help p h deed) is cancel = is

no_help-of_lane : (q : ℕ) (step : Step) → IsStepOfLane q step → ¬ IsHelp step
no_help-of_lane q (Queue i) is help = help
no_help-of_lane q (Cancel i) is help = help
no_help-of_lane q (Start p i) is help = help
no_help-of_lane q (Wait p b) is help = help
no_help-of_lane q (Over p b) is help = help
no_help-of_lane q (WaitAll p b) is help = help
no_help-of_lane q (OverAll p b) is help = help
no_help-of_lane q (Finish p i) is help = help
no_help-of_lane q (Help p h deed) is help = is

queues-of_lane : (i q : ℕ) (step : Step) → IsStepOfLane q step → one_if (queues i step) ≡ 0
queues-of_lane i q (Queue j) is = absurd is
queues-of_lane i q (Cancel j) is = absurd is
queues-of_lane i q (Start p j) is = refl
queues-of_lane i q (Wait p b) is = refl
queues-of_lane i q (Over p b) is = refl
queues-of_lane i q (WaitAll p b) is = refl
queues-of_lane i q (OverAll p b) is = refl
queues-of_lane i q (Finish p j) is = refl
queues-of_lane i q (Help p h deed) is = absurd is

-- ---- played runs

pub IsRunFrom-played : (w : Wiring) (s : State) (steps : List Step) → IsPlayedFrom w s steps → IsRunFrom w s steps
IsRunFrom-played w s [] played = tt
IsRunFrom-played w s (step ∷ steps) played = (played.0.1.lawful, IsRunFrom-played w (effect w s step) steps played.1)

pub AsDeclaredFrom-played : (w : Wiring) (s : State) (steps : List Step) → IsPlayedFrom w s steps → AsDeclaredFrom w s steps
AsDeclaredFrom-played w s [] played = tt
AsDeclaredFrom-played w s (step ∷ steps) played = (played.0.1.in_order, AsDeclaredFrom-played w (effect w s step) steps played.1)

pub no_cancel-played : (w : Wiring) (s : State) (steps : List Step) → IsPlayedFrom w s steps → All (λ (step : Step). ¬ IsCancel step) steps
no_cancel-played w s [] played = All-nil (λ (step : Step). ¬ IsCancel step)
no_cancel-played w s (step ∷ steps) played =
    All-cons (λ (x : Step). ¬ IsCancel x) step steps (no_cancel-of_lane played.0.0 step played.0.1.of_lane) (no_cancel-played w (effect w s step) steps played.1)

pub no_help-played : (w : Wiring) (s : State) (steps : List Step) → IsPlayedFrom w s steps → HasNoHelp steps
no_help-played w s [] played = All-nil (λ (step : Step). ¬ IsHelp step)
no_help-played w s (step ∷ steps) played =
    All-cons (λ (x : Step). ¬ IsHelp x) step steps (no_help-of_lane played.0.0 step played.0.1.of_lane) (no_help-played w (effect w s step) steps played.1)

pub count_by-queues_played : (w : Wiring) (s : State) (steps : List Step) (i : ℕ) → IsPlayedFrom w s steps → count_by (λ (step : Step). queues i step) steps ≡ 0
count_by-queues_played w s [] i played = refl
count_by-queues_played w s (step ∷ steps) i played =
    let all = sum_by-cons (λ (x : Step). one_if (queues i x)) step steps in
    let first : one_if (queues i step) ≡ 0 = queues-of_lane i played.0.0 step played.0.1.of_lane in
    let rest : count_by (λ (x : Step). queues i x) steps ≡ 0 = count_by-queues_played w (effect w s step) steps i played.1 in
    omega (arith, all, first, rest)

pub HasNoDeclaredStep-played : (w : Wiring) (s : State) (steps : List Step) → IsPlayedFrom w s steps → (q : ℕ) → HasNoDeclaredStep w (after w s steps) q
HasNoDeclaredStep-played w s [] played = played
HasNoDeclaredStep-played w s (step ∷ steps) played = HasNoDeclaredStep-played w (effect w s step) steps played.1

-- ---- if a rescuer can move, its lane can move as declared

next_target : (ts : List Target) (k : ℕ) → k < length ts → (t : Target) × (slice_get ts k ≡ Some t) × Any (λ (u : Target). (u.item ≡ t.item) × (u.whole ≡ t.whole)) ts
next_target [] k lt = absurd (omega arith)
next_target (t ∷ ts) zero lt = (t, refl, (0, t, omega arith, refl, (refl, refl)))
next_target (t ∷ ts) (suc k) lt = let next = next_target ts k (omega arith) in (next.0, next.1, (suc next.2.0, next.2.1, omega (arith, next.2.2), next.2.3, next.2.4))

-- an entry that a rescuer runs and that isn't waiting makes its next declared wait, or finishes after the last
pub awake_moves : (w : Wiring) (s : State) (q : ℕ) (r : Running) → IsSoundState w s → Runs (lane_at s q) r → r.waiting ≡ None → (step : Step) × IsDeclaredStep w s q step
awake_moves w s q r sound runs awake = elim (cases_lt r.made (length (declared_by w r.entry.item))) [
  | inl before ↦ (
      let next = next_target (declared_by w r.entry.item) r.made before in (
        wait_of next.0.whole q next.0.item,
        record {
          of_lane = of_lane-wait_of q next.0.whole next.0.item;
          lawful = lawful-waits w s q next.0.whole next.0.item (r, runs, record { awake = awake; declared = next.2; fewer = before });
          forced = forced-wait_of w q next.0.whole next.0.item;
          in_order = in_order-next w s q next.0.whole next.0.item (r, runs, (next.0, next.1, refl, refl));
        },
      )
      )
  | inr past ↦ (
      let most : r.made ≤ length (declared_by w r.entry.item) = (sound.running q 0 r runs).made in
      (Finish q r.entry.item, record { of_lane = refl; lawful = (r, runs, record { entry = refl; awake = awake }); forced = tt; in_order = (r, runs, omega arith) })
      )
]

-- where only rescuers run something
moves_as_declared : (w : Wiring) (s : State) (step : Step) → IsSoundState w s → OnlyRescuersRun s → IsForcedStep w step → Lawful w s step → (q : ℕ) × (other : Step) × IsDeclaredStep w s q other
moves_as_declared w s (Queue i) sound only is lawful = absurd is
moves_as_declared w s (Cancel i) sound only is lawful = absurd is
moves_as_declared w s (Start q i) sound only is lawful = (q, Start q i, record { of_lane = refl; lawful = lawful; forced = is; in_order = tt })
moves_as_declared w s (Wait q b) sound only is (r, runs, may) = let move = awake_moves w s q r sound runs may.awake in (q, move.0, move.1)
moves_as_declared w s (Over q b) sound only is lawful = (q, Over q b, record { of_lane = refl; lawful = lawful; forced = tt; in_order = tt })
moves_as_declared w s (WaitAll q b) sound only is (r, runs, may) = let move = awake_moves w s q r sound runs may.awake in (q, move.0, move.1)
moves_as_declared w s (OverAll q b) sound only is lawful = (q, OverAll q b, record { of_lane = refl; lawful = lawful; forced = tt; in_order = tt })
moves_as_declared w s (Finish q i) sound only is (r, runs, may) = let move = awake_moves w s q r sound runs may.awake in (q, move.0, move.1)
moves_as_declared w s (Help q h deed) sound only is lawful = absurd (no_helper-goes_on w s q h deed only is lawful)

pub no_step-played : (w : Wiring) (s : State) (steps : List Step) → IsPlayedFrom w s steps → IsSoundState w (after w s steps) → OnlyRescuersRun (after w s steps)
    → (step : Step) → IsForcedStep w step → ¬ Lawful w (after w s steps) step
no_step-played w s steps played sound only step is lawful =
    let move = moves_as_declared w (after w s steps) step sound only is lawful in
    HasNoDeclaredStep-played w s steps played move.0 move.1 move.2
