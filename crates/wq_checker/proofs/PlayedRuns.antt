-- Runs that are played on a machine, step by step.
use Rattle.std.proofs.Common.{◌≡◌, ℕ, ◌+◌, ◌≤◌, ◌⊎◌, inl, inr, ◌↔◌, Bool, true, false, List, [], ◌∷◌, ◌++◌, sym, ap, subst, ◌∙◌, arith}
use Rattle.std.specs.Prelude.{IsTrue}
use Rattle.wq_core.specs.declared.step.Step.{Step}
use Rattle.wq_core.specs.Wiring.{Wiring}
use Rattle.wq_core.specs.State.{State, empty_state}
use Rattle.wq_core.specs.Rules.{Lawful, effect}
use Rattle.wq_core.specs.Runs.{after, end_of, KeepsOrder, AsDeclaredFrom}
use Rattle.wq_core.specs.Held.{Machine, IsDone, AreDone}
use Rattle.wq_core.proofs.RunLemmas.{AreDone-more, next-effect}
use Rattle.wq_checker.specs.Searching.{IsPlayed}

-- ---- steps in a row

AsDeclaredFrom-more : (w : Wiring) (s : State) (steps : List Step) (step : Step) → AsDeclaredFrom w s (steps ++ (step ∷ [])) ↔ (AsDeclaredFrom w s steps × KeepsOrder w (after w s steps) step)
AsDeclaredFrom-more w s [] step = ((λ h. (tt, h.0)), (λ h. (h.1, tt)))
AsDeclaredFrom-more w s (first ∷ steps) step =
    let rest = AsDeclaredFrom-more w (effect w s first) steps step in
    ((λ h. ((h.0, (rest.0 h.1).0), (rest.0 h.1).1)), (λ h. (h.0.0, rest.1 (h.0.1, h.1))))

pub next-done : (old new : Machine) (step : Step) (n : ℕ) → IsDone old step n new → new.state.next ≤ old.state.next + 1
next-done old new step n done =
    let is : new.state.next ≡ (effect old.wiring old.state step).next = ap (λ (m : Machine). m.state.next) done.after in
    omega (arith, is, next-effect old.wiring old.state step)

-- ---- a run with one more step

module _ (w : Wiring) (steps : List Step) (step : Step) (b keeps : Bool) (old new : Machine) (n : ℕ) (played : IsPlayed w steps b old) (done : IsDone old step n new)
    (order : Lawful old.wiring old.state step → IsTrue keeps ↔ KeepsOrder old.wiring old.state step) where
  more : AreDone (record { wiring = w; state = empty_state w }) (steps ++ (step ∷ [])) new
  more = AreDone-more (record { wiring = w; state = empty_state w }) old new steps step n (record { lawful = played.run; wiring = played.wiring; state = played.state }) done

  -- the machine is where the run ends
  at_end : IsTrue keeps ↔ KeepsOrder w (end_of w steps) step
  at_end =
      subst (λ (s : State). IsTrue keeps ↔ KeepsOrder w s step) played.state (
      subst (λ (v : Wiring). IsTrue keeps ↔ KeepsOrder v old.state step) played.wiring (order done.lawful)
      )

  both : AsDeclaredFrom w (empty_state w) (steps ++ (step ∷ [])) ↔ (AsDeclaredFrom w (empty_state w) steps × KeepsOrder w (end_of w steps) step)
  both = AsDeclaredFrom-more w (empty_state w) steps step

  -- it is in order if it was so far and the step keeps to it
  pub IsPlayed-more : (c : Bool) → ((b ≡ true) × (c ≡ keeps)) ⊎ ((b ≡ false) × (c ≡ false)) → IsPlayed w (steps ++ (step ∷ [])) c new
  IsPlayed-more c (inl so_far) = record {
    run = more.lawful;
    wiring = more.wiring;
    state = more.state;
    declared = ((λ e. both.1 (played.declared.0 so_far.0, at_end.0 (sym so_far.1 ∙ e))), (λ h. so_far.1 ∙ at_end.1 (both.0 h).1));
  }
  IsPlayed-more c (inr not_so_far) = record {
    run = more.lawful;
    wiring = more.wiring;
    state = more.state;
    declared = ((λ e. absurd (let both_ways : false ≡ true = sym not_so_far.1 ∙ e in cc)), (λ h. absurd (let both_ways : false ≡ true = sym not_so_far.0 ∙ played.declared.1 (both.0 h).0 in cc)));
  }
