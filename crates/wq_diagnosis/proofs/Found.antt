-- The first step that isn't lawful, if the steps are made on a machine.
use Rattle.std.proofs.Common.{◌≡◌, ℕ, zero, suc, ◌+◌, ◌-◌, ◌<◌, ◌≤◌, List, [], ◌∷◌, length, take, Some, Ok, refl, ap, subst, arith}
use Rattle.std.specs.Prelude.{slice_get}
use Rattle.std.specs.List.{All}
use Rattle.std.proofs.lemmas.List.Elements.{All-cons, All-head, All-nil, All-tail}
use Rattle.wq_core.specs.declared.step.Step.{Step}
use Rattle.wq_core.specs.declared.step.Step.TheVariants.{Queue}
use Rattle.wq_core.specs.declared.step.StepError.{StepError}
use Rattle.wq_core.specs.declared.step.StepError.TheVariants.{NotLawful, NumbersUsedUp}
use Rattle.wq_core.specs.Wiring.{Wiring}
use Rattle.wq_core.specs.State.{State, empty_state, max_number}
use Rattle.wq_core.specs.Rules.{Lawful, effect}
use Rattle.wq_core.specs.Runs.{after, IsRun, IsRunFrom, end_of, IsHelp, HasNoHelp}
use Rattle.wq_core.specs.Held.{Machine, AreDone, IsRefusal, UsesUp}
use Rattle.wq_core.proofs.RunLemmas.{next-effect}
use Rattle.wq_cert.specs.Ranges.{IsRunOf, IsStepOf}
use Rattle.wq_checker.specs.declared.run.RunEnd.TheVariants as ends
use Rattle.wq_checker.specs.RunEnds.{IsFirstUnlawful}
use Rattle.wq_checker.proofs.OneAnswer.{one_end}
use Rattle.wq_checker.proofs.RunEndLemmas.{IsRun-unlawful}
use Rattle.wq_diagnosis.specs.declared.unlawful.Unlawful.{Unlawful}
use Rattle.wq_diagnosis.specs.Unlawful.{Forbids, IsFirstFor}

-- ---- numbers

next-after : (w : Wiring) (s : State) (steps : List Step) → (after w s steps).next ≤ s.next + length steps
next-after w s [] = omega arith
next-after w s (step ∷ steps) = omega (arith, next-after w (effect w s step) steps, next-effect w s step)

used_up : (s : State) (step : Step) → UsesUp s step → s.next ≡ max_number
used_up s (Queue i) used = used
used_up s _ used = absurd used

few_taken : (k : ℕ) (steps : List Step) → length (take k steps) ≤ k
few_taken zero steps = omega arith
few_taken (suc k) [] = omega arith
few_taken (suc k) (step ∷ steps) = omega (arith, few_taken k steps)

-- ---- steps

abbrev NotHelp : Step → Type 0
NotHelp step = ¬ IsHelp step

-- none of the steps is a helper's
pub no_help-at : (steps : List Step) (k : ℕ) (step : Step) → HasNoHelp steps → slice_get steps k ≡ Some step → ¬ IsHelp step
no_help-at [] k step none stands = absurd cc
no_help-at (x ∷ steps) zero step none stands =
    let same : x ≡ step = cc in subst NotHelp same (All-head NotHelp x steps none)
no_help-at (x ∷ steps) (suc k) step none stands = no_help-at steps k step (All-tail NotHelp x steps none) stands

-- no step that a text of a run says is a helper's
pub no_help : (items : ℕ) (steps : List Step) → IsRunOf items steps → HasNoHelp steps
no_help items steps run = weaken steps run.known
  where
    weaken : (steps : List Step) → All (IsStepOf items) steps → HasNoHelp steps
    weaken [] known = All-nil NotHelp
    weaken (step ∷ steps) known =
        All-cons NotHelp step steps (All-head (IsStepOf items) step steps known).2
        (weaken steps (All-tail (IsStepOf items) step steps known))

-- ---- the first that isn't lawful

module _ (old new : Machine) (steps : List Step) (k : ℕ) (empty : old.state ≡ empty_state old.wiring) (done : AreDone old (take k steps) new) where
  before : IsRun old.wiring (take k steps)
  before = subst (λ (s : State). IsRunFrom old.wiring s (take k steps)) empty done.lawful

  leaves : new.state ≡ end_of old.wiring (take k steps)
  leaves = subst (λ (s : State). new.state ≡ after old.wiring s (take k steps)) empty done.state

  module _ (step : Step) (stands : slice_get steps k ≡ Some step) where
    first_at : (reason : Unlawful) (j : ℕ) → k ≡ j → Forbids new.wiring new.state reason step
        → (slice_get steps j ≡ Some step) × IsRun old.wiring (take j steps) × Forbids old.wiring (end_of old.wiring (take j steps)) reason step
    first_at reason j same forbids =
        let at_end = subst (λ (s : State). Forbids old.wiring s reason step) leaves (subst (λ (w : Wiring). Forbids w new.state reason step) done.wiring forbids) in
        subst (λ (i : ℕ). (slice_get steps i ≡ Some step) × IsRun old.wiring (take i steps) × Forbids old.wiring (end_of old.wiring (take i steps)) reason step) same (stands, before, at_end)

    -- a reason that forbids the step that isn't made is why it is the first that isn't lawful
    pub first-for : (reason : Unlawful) → Forbids new.wiring new.state reason step → IsFirstFor old.wiring steps (k + 1) step reason
    first-for reason forbids =
        let found = first_at reason ((k + 1) - 1) (omega arith) forbids in
        record {
          first = record {
            from_one = omega arith;
            step = step;
            stands = found.0;
            before = found.1;
            unlawful = found.2.rules_out old.wiring (end_of old.wiring (take ((k + 1) - 1) steps)) found.2.holds;
          };
          same = refl;
          forbids = found.2;
        }

    -- a lawful step is made, since the numbers are never used up
    pub is_made : length steps < max_number → k < length steps → Lawful new.wiring new.state step → (e : StepError) → ¬ IsRefusal new step e
    is_made few within lawful NotLawful unlawful = unlawful lawful
    is_made few within lawful NumbersUsedUp used =
        let full = used_up new.state step used.1 in
        let next : new.state.next ≤ length (take k steps) = omega (arith, ap (λ (s : State). s.next) leaves, next-after old.wiring (empty_state old.wiring) (take k steps)) in
        omega (arith, full, next, few_taken k steps, few, within)

-- if all steps are made, none is the first that isn't lawful
pub none_first : (old new : Machine) (steps : List Step) → old.state ≡ empty_state old.wiring → AreDone old steps new
    → (n : ℕ) → ¬ IsFirstUnlawful old.wiring steps n
none_first old new steps empty done n is =
    IsRun-unlawful old.wiring steps n is (subst (λ (s : State). IsRunFrom old.wiring s steps) empty done.lawful)

-- only one is the first that isn't lawful
pub not_first : (w : Wiring) (steps : List Step) (m n : ℕ) → (¬ (m ≡ n)) → IsFirstUnlawful w steps m → ¬ IsFirstUnlawful w steps n
not_first w steps m n other one is =
    let same = one_end w steps (ends.NotLawful m) (ends.NotLawful n) one is in
    other cc
