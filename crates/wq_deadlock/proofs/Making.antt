-- Steps that a machine can make, one after another, up to each of them.
use Rattle.std.proofs.Common.{◌≡◌, ℕ, zero, suc, ◌+◌, ◌<◌, ◌≤◌, List, [], ◌∷◌, length, take, Option, Some, None, Result, Ok, Err, refl, ap, subst, sym, arith}
use Rattle.std.specs.Prelude.{slice_get, IfErr, IfSome, IsOk}
use Rattle.wq_core.specs.declared.step.Step.{Step}
use Rattle.wq_core.specs.declared.step.Step.TheVariants.{Queue, Cancel, Start, Wait, Over, WaitAll, OverAll, Finish, Help}
use Rattle.wq_core.specs.declared.step.RunError.{RunError}
use Rattle.wq_core.specs.declared.step.StepError.{StepError}
use Rattle.wq_core.specs.declared.step.StepError.TheVariants.{NotLawful, NumbersUsedUp}
use Rattle.wq_core.specs.Wiring.{Wiring}
use Rattle.wq_core.specs.State.{State}
use Rattle.wq_core.specs.Rules.{Lawful, effect}
use Rattle.wq_core.specs.Runs.{after, IsRunFrom}
use Rattle.wq_core.specs.Held.{Machine, UsesUp, IsRefusal, AreDone}
use Rattle.wq_core.proofs.RunLemmas.{IsRunFrom-at, next-effect}

next-after : (w : Wiring) (s : State) (steps : List Step) (k : ℕ) → (after w s (take k steps)).next ≤ s.next + k
next-after w s [] zero = omega arith
next-after w s [] (suc k) = omega arith
next-after w s (step ∷ steps) zero = omega arith
next-after w s (step ∷ steps) (suc k) =
    let one = next-effect w s step in
    let rest = next-after w (effect w s step) steps k in
    omega (arith, one, rest)

UsesUp-next : (s : State) (step : Step) → UsesUp s step → s.next ≡ 4294967295
UsesUp-next s (Queue i) up = up
UsesUp-next s (Cancel i) up = absurd up
UsesUp-next s (Start q i) up = absurd up
UsesUp-next s (Wait q b) up = absurd up
UsesUp-next s (Over q b) up = absurd up
UsesUp-next s (WaitAll q b) up = absurd up
UsesUp-next s (OverAll q b) up = absurd up
UsesUp-next s (Finish q i) up = absurd up
UsesUp-next s (Help q h deed) up = absurd up

slice_get_none : (steps : List Step) (k : ℕ) → slice_get steps k ≡ None → ¬ (k < length steps)
slice_get_none [] k none lt = omega arith
slice_get_none (step ∷ steps) zero none lt = cc
slice_get_none (step ∷ steps) (suc k) none lt = slice_get_none steps k none (omega arith)

-- none of a run's steps is refused, while there are numbers
pub no_refusal : (old new : Machine) (steps : List Step) (k : ℕ) (step : Step) (why : StepError) → IsRunFrom old.wiring old.state steps
    → old.state.next + length steps < 4294967295 → k < length steps → slice_get steps k ≡ Some step → AreDone old (take k steps) new → ¬ IsRefusal new step why
no_refusal old new steps k step why run numbers within at done refusal = refuted why refusal
  where
    lawful : Lawful new.wiring new.state step
    lawful =
        subst (λ (v : Wiring). Lawful v new.state step) (sym done.wiring)
        (subst (λ (t : State). Lawful old.wiring t step) (sym done.state) (IsRunFrom-at old.wiring old.state steps k step run at))

    refuted : (e : StepError) → ¬ IsRefusal new step e
    refuted NotLawful refusal = refusal lawful
    refuted NumbersUsedUp refusal =
        let up : new.state.next ≡ 4294967295 = UsesUp-next new.state step refusal.1 in
        let few : (after old.wiring old.state (take k steps)).next ≤ old.state.next + k = next-after old.wiring old.state steps k in
        let same : new.state.next ≡ (after old.wiring old.state (take k steps)).next = ap (λ (t : State). t.next) done.state in
        omega (arith, up, few, same)

-- so all of them are made
pub IsOk-run : (old new : Machine) (steps : List Step) (result : Result (Unit {0}) RunError) → IsRunFrom old.wiring old.state steps → old.state.next + length steps < 4294967295
    → IfErr result (λ e. AreDone old (take e.at steps) new × IfSome (slice_get steps e.at) (λ step. IsRefusal new step e.why) × (e.at < length steps)) → IsOk result
IsOk-run old new steps (Ok x) run numbers refused = refl
IsOk-run old new steps (Err e) run numbers refused = absurd (refuted (slice_get steps e.at) refl refused.1)
  where
    refuted : (o : Option Step) → slice_get steps e.at ≡ o → ¬ IfSome o (λ step. IsRefusal new step e.why)
    refuted None at refusal = slice_get_none steps e.at at refused.2
    refuted (Some step) at refusal = no_refusal old new steps e.at step e.why run numbers refused.2 at refused.0 refusal
