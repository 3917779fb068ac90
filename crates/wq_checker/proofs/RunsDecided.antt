-- Each list of steps has an end.
use Rattle.std.proofs.Common.{◌≡◌, ℕ, suc, ◌+◌, ◌-◌, ◌<◌, ◌⊎◌, inl, inr, ◌↔◌, List, [], ◌∷◌, take, Some, refl, subst}
use Rattle.std.proofs.Common.{arith}
use Rattle.std.specs.Prelude.{slice_get}
use Rattle.std.specs.List.{All, count_by}
use Rattle.std.proofs.lemmas.Bool.{cases_eq}
use Rattle.wq_core.specs.declared.step.Step.{Step}
use Rattle.wq_core.specs.declared.step.Step.TheVariants.{Queue, Cancel, Start, Wait, Over, WaitAll, OverAll, Finish, Help}
use Rattle.wq_core.specs.Wiring.{Wiring, items}
use Rattle.wq_core.specs.State.{State, empty_state}
use Rattle.wq_core.specs.Rules.{Lawful, effect}
use Rattle.wq_core.specs.Runs.{after, IsRunFrom, end_of, AsDeclaredFrom, IsCancel, IsOnce, IsHelp, HasNoHelp, queues}
use Rattle.wq_core.specs.Deadlock.{DeadlocksBy}
use Rattle.wq_core.specs.MustGoOn.{rescued_items}
use Rattle.wq_core.proofs.GoingOn.{stuck-rescued, deadlocks-rescued}
use Rattle.wq_core.proofs.Sound.{IsSoundState-end_of}
use Rattle.wq_checker.specs.declared.run.RunEnd.{RunEnd}
use Rattle.wq_checker.specs.declared.run.RunEnd.TheVariants.{NotLawful, Deadlock, Stuck, Free}
use Rattle.wq_checker.specs.RunEnds.{IsFirstUnlawful, EndsAs, EndsFor}
use Rattle.wq_checker.proofs.Decided.{Decided, both, alike, cases_All, cases_each_below}
use Rattle.wq_checker.proofs.LawfulSteps.{cases_Lawful, cases_KeepsOrder, cases_IsStuck, cases_IsStuckFor}
use Rattle.wq_checker.proofs.RunEndLemmas.{EndsAs-deadlocks}

-- step k, counted from 0, is the first that isn't lawful
record UnlawfulAt (w : Wiring) (s : State) (steps : List Step) (k : ℕ) : Type 0 where
  step : Step
  stands : slice_get steps k ≡ Some step
  before : IsRunFrom w s (take k steps)
  unlawful : ¬ Lawful w (after w s (take k steps)) step

cases_run : (w : Wiring) (s : State) (steps : List Step) → IsRunFrom w s steps ⊎ ((k : ℕ) × UnlawfulAt w s steps k)
cases_run w s [] = inl tt
cases_run w s (step ∷ steps) = elim (cases_Lawful w s step) [
  | inr unlawful ↦ inr (0, record { step = step; stands = refl; before = tt; unlawful = unlawful })
  | inl lawful ↦ elim (cases_run w (effect w s step) steps) [
    | inl run ↦ inl (lawful, run)
    | inr later ↦ inr (
      suc later.0,
      record {
        step = later.1.step;
        stands = later.1.stands;
        before = (lawful, later.1.before);
        unlawful = later.1.unlawful;
      },
    )
  ]
]

cases_AsDeclaredFrom : (w : Wiring) (s : State) (steps : List Step) → Decided (AsDeclaredFrom w s steps)
cases_AsDeclaredFrom w s [] = inl tt
cases_AsDeclaredFrom w s (step ∷ steps) = both (cases_KeepsOrder w s step) (cases_AsDeclaredFrom w (effect w s step) steps)

cases_IsCancel : (step : Step) → Decided (¬ IsCancel step)
cases_IsCancel (Queue i) = inl (λ h. h)
cases_IsCancel (Cancel i) = inr (λ h. h tt)
cases_IsCancel (Start q i) = inl (λ h. h)
cases_IsCancel (Wait q b) = inl (λ h. h)
cases_IsCancel (Over q b) = inl (λ h. h)
cases_IsCancel (WaitAll q b) = inl (λ h. h)
cases_IsCancel (OverAll q b) = inl (λ h. h)
cases_IsCancel (Finish q i) = inl (λ h. h)
cases_IsCancel (Help q helper deed) = inl (λ h. h)

cases_IsHelp : (step : Step) → Decided (¬ IsHelp step)
cases_IsHelp (Queue i) = inl (λ h. h)
cases_IsHelp (Cancel i) = inl (λ h. h)
cases_IsHelp (Start q i) = inl (λ h. h)
cases_IsHelp (Wait q b) = inl (λ h. h)
cases_IsHelp (Over q b) = inl (λ h. h)
cases_IsHelp (WaitAll q b) = inl (λ h. h)
cases_IsHelp (OverAll q b) = inl (λ h. h)
cases_IsHelp (Finish q i) = inl (λ h. h)
cases_IsHelp (Help q helper deed) = inr (λ h. h tt)

cases_HasNoHelp : (steps : List Step) → Decided (HasNoHelp steps)
cases_HasNoHelp = cases_All (λ (step : Step). ¬ IsHelp step) cases_IsHelp

cases_IsOnce : (w : Wiring) (steps : List Step) → Decided (IsOnce w steps)
cases_IsOnce w steps =
    alike (λ (h : ((i : ℕ) → i < items w → count_by (λ (step : Step). queues i step) steps ≡ 1) × All (λ (step : Step). ¬ IsCancel step) steps). record { queued = h.0; uncancelled = h.1 })
    (λ (once : IsOnce w steps). (once.queued, once.uncancelled))
    (both (cases_each_below (λ i. count_by (λ (step : Step). queues i step) steps ≡ 1) (λ i. cases_eq (count_by (λ (step : Step). queues i step) steps) 1) (items w)) (cases_All (λ (step : Step). ¬ IsCancel step) cases_IsCancel steps))

-- ---- the end

module _ (w : Wiring) (steps : List Step) where
  IsFirstUnlawful-at : (k : ℕ) → UnlawfulAt w (empty_state w) steps k → IsFirstUnlawful w steps (k + 1)
  IsFirstUnlawful-at k at =
      let same : k ≡ k + 1 - 1 = omega arith in
      record {
        from_one = omega arith;
        step = at.step;
        stands = subst (λ (n : ℕ). slice_get steps n ≡ Some at.step) same at.stands;
        before = subst (λ (n : ℕ). IsRunFrom w (empty_state w) (take n steps)) same at.before;
        unlawful = subst (λ (n : ℕ). ¬ Lawful w (end_of w (take n steps)) at.step) same at.unlawful;
      }

  pub an_end : (end : RunEnd) × EndsAs w steps end
  an_end = elim (cases_run w (empty_state w) steps) [
    | inr at ↦ (NotLawful (at.0 + 1), IsFirstUnlawful-at at.0 at.1)
    | inl run ↦ elim (cases_IsStuck w (end_of w steps) (IsSoundState-end_of w steps run)) [
      | inr moves ↦ (Free, (run, moves))
      | inl stuck ↦ elim (both (cases_HasNoHelp steps) (both (cases_IsOnce w steps) (cases_AsDeclaredFrom w (empty_state w) steps))) [
        | inl h ↦ (Deadlock, record { run = run; no_help = h.0; once = h.1.0; as_declared = h.1.1; stuck = stuck })
        | inr no_deadlock ↦ (Stuck, (run, stuck, λ h. no_deadlock (h.no_help, (h.once, h.as_declared))))
      ]
    ]
  ]

  -- and one where these items must go on
  pub an_end_for : (named : List ℕ) → (end : RunEnd) × EndsFor w named steps end
  an_end_for named = elim (cases_run w (empty_state w) steps) [
    | inr at ↦ (NotLawful (at.0 + 1), IsFirstUnlawful-at at.0 at.1)
    | inl run ↦ elim (cases_IsStuckFor w (end_of w steps) (IsSoundState-end_of w steps run) named) [
      | inr moves ↦ (Free, (run, moves))
      | inl stuck ↦ elim (both (cases_HasNoHelp steps)
          (both (cases_IsOnce w steps) (cases_AsDeclaredFrom w (empty_state w) steps))) [
            | inl h ↦ (
              Deadlock,
              record { run = run; no_help = h.0; once = h.1.0; as_declared = h.1.1; stuck = stuck },
            )
            | inr no_deadlock ↦ (Stuck, (run, stuck, λ h. no_deadlock (h.no_help, (h.once, h.as_declared))))
          ]
    ]
  ]

  -- which is that without names if all items must go on whose lanes have a rescuer
  pub for_rescued : (end : RunEnd) → EndsFor w (rescued_items w) steps end ↔ EndsAs w steps end
  for_rescued (NotLawful n) = ((λ is. is), (λ is. is))
  for_rescued Deadlock = ((deadlocks-rescued w steps).1, (deadlocks-rescued w steps).0)
  for_rescued Stuck = (
    (λ is. (
      is.0,
      (stuck-rescued w steps is.0).1 is.1,
      λ dead. is.2 ((deadlocks-rescued w steps).0 dead),
    )),
    (λ is. (
      is.0,
      (stuck-rescued w steps is.0).0 is.1,
      λ dead. is.2 ((deadlocks-rescued w steps).1 dead),
    )),
  )
  for_rescued Free = (
    (λ is. (is.0, λ stuck. is.1 ((stuck-rescued w steps is.0).0 stuck))),
    (λ is. (is.0, λ stuck. is.1 ((stuck-rescued w steps is.0).1 stuck))),
  )

  cases_end : (end : RunEnd) → Decided (end ≡ Deadlock)
  cases_end (NotLawful n) = inr (λ e. absurd cc)
  cases_end Deadlock = inl refl
  cases_end Stuck = inr (λ e. absurd cc)
  cases_end Free = inr (λ e. absurd cc)

  pub cases_DeadlocksBy : Decided (DeadlocksBy w steps)
  cases_DeadlocksBy = let is = EndsAs-deadlocks w steps an_end.0 an_end.1 in alike is.0 is.1 (cases_end an_end.0)
