-- Wirings that are the same but for the places of flushes: the same steps end in the same way.
use Rattle.std.proofs.Common.{◌≡◌, ℕ, ◌+◌, ◌-◌, ◌<◌, List, [], ◌∷◌, ◌++◌, length, take, Some, sym, ap, subst, ◌∙◌}
use Rattle.std.proofs.Common.{arith}
use Rattle.std.specs.Prelude.{slice_get}
use Rattle.std.proofs.Math.Seq.{get_or-append_seam, take-append_seam}
use Rattle.std.proofs.lemmas.List.{length-append}
use Rattle.std.proofs.lemmas.Option.{slice_get-get_or}
use Rattle.wq_core.specs.declared.step.Step.{Step}
use Rattle.wq_core.specs.declared.step.Step.TheVariants.{Queue, Cancel, Start, Wait, Over, WaitAll, OverAll, Finish}
use Rattle.wq_core.specs.declared.step.Step.TheVariants.{Help}
use Rattle.wq_items.specs.declared.target.Target.{Target}
use Rattle.wq_core.specs.Wiring.{Wiring, items}
use Rattle.wq_core.specs.State.{State, HasUnfinishedOf, empty_state}
use Rattle.wq_core.specs.Rules.{Lawful}
use Rattle.wq_core.specs.Runs.{IsRun, end_of, after, IsForcedStep, IsOnce}
use Rattle.wq_core.specs.Deadlock.{IsStuck, DeadlocksBy}
use Rattle.wq_core.specs.MustGoOn.{IsStuckFor, DeadlocksFor}
use Rattle.wq_core.specs.Readings.{DeclaresMore, SameButPlaces}
use Rattle.wq_core.proofs.MoreFlushes.{end_of-more, IsRun-more, stuck-more, DeclaresMore-same, SameButPlaces-sym}
use Rattle.wq_core.proofs.MoreFlushes.{AsDeclared-same}
use Rattle.wq_core.proofs.RunLemmas.{IsRunFrom-at, IsRunFrom-more}
use Rattle.wq_checker.specs.declared.run.RunEnd.{RunEnd}
use Rattle.wq_checker.specs.declared.run.RunEnd.TheVariants.{NotLawful, Deadlock, Stuck, Free}
use Rattle.wq_checker.specs.RunEnds.{IsFirstUnlawful, EndsAs, EndsFor}

-- the last step of a run is lawful before it
lawful-last : (w : Wiring) (steps : List Step) (step : Step) → IsRun w (steps ++ (step ∷ []))
    → Lawful w (end_of w steps) step
lawful-last w steps step run =
    let all : List Step = steps ++ (step ∷ []) in
    let within : length steps < length all = omega (arith, length-append steps (step ∷ [])) in
    let stands : slice_get all (length steps) ≡ Some step =
    slice_get-get_or all (length steps) step within
    ∙ ap (λ (x : Step). Some x) (get_or-append_seam steps step [] step) in
    subst (λ (l : List Step). Lawful w (after w (empty_state w) l) step) (take-append_seam steps (step ∷ []))
    (IsRunFrom-at w (empty_state w) all (length steps) step run stands)

module _ (v w : Wiring) (same : SameButPlaces v w) where
  more : DeclaresMore v w
  more = DeclaresMore-same v w same

  stuck-end : (steps : List Step) → IsStuck v (end_of v steps) → IsStuck w (end_of w steps)
  stuck-end steps stuck = subst (IsStuck w) (end_of-more v w steps more) (stuck-more v w (end_of v steps) more stuck)

  once-same : (steps : List Step) → IsOnce v steps → IsOnce w steps
  once-same steps once =
      record {
        queued = λ i within. once.queued i (omega (arith, within, more.items));
        uncancelled =
            once.uncancelled;
      }

  pub deadlock-same : (steps : List Step) → DeadlocksBy v steps → DeadlocksBy w steps
  deadlock-same steps by = record {
    run = IsRun-more v w steps more by.run;
    once = once-same steps by.once;
    as_declared = AsDeclared-same v w steps same by.as_declared;
    no_help = by.no_help;
    stuck = stuck-end steps by.stuck;
  }

-- a step that may be made in one may be made in the other
lawful-same : (v w : Wiring) → SameButPlaces v w → (steps : List Step) (step : Step) → IsRun v steps
    → Lawful v (end_of v steps) step → Lawful w (end_of w steps) step
lawful-same v w same steps step run lawful =
    let longer : IsRun v (steps ++ (step ∷ [])) = IsRunFrom-more v (empty_state v) steps step run lawful in
    lawful-last w steps step (IsRun-more v w (steps ++ (step ∷ [])) (DeclaresMore-same v w same) longer)

unlawful-same : (v w : Wiring) → SameButPlaces v w → (steps : List Step) (n : ℕ) → IsFirstUnlawful v steps n
    → IsFirstUnlawful w steps n
unlawful-same v w same steps n is =
    let before : IsRun w (take (n - 1) steps) =
    IsRun-more v w (take (n - 1) steps) (DeclaresMore-same v w same) is.before in
    record {
      from_one = is.from_one;
      step = is.step;
      stands = is.stands;
      before = before;
      unlawful = λ lawful. is.unlawful
          (lawful-same w v (SameButPlaces-sym v w same) (take (n - 1) steps) is.step before lawful);
    }

pub end_as-same : (v w : Wiring) → SameButPlaces v w → (steps : List Step) (e : RunEnd) → EndsAs v steps e
    → EndsAs w steps e
end_as-same v w same steps (NotLawful n) is = unlawful-same v w same steps n is
end_as-same v w same steps Deadlock by = deadlock-same v w same steps by
end_as-same v w same steps Stuck (run, stuck, no_deadlock) = (
  IsRun-more v w steps (DeclaresMore-same v w same) run,
  stuck-end v w same steps stuck,
  λ by. no_deadlock (deadlock-same w v (SameButPlaces-sym v w same) steps by),
)
end_as-same v w same steps Free (run, free) = (
  IsRun-more v w steps (DeclaresMore-same v w same) run,
  λ stuck. free
      (stuck-end w v (SameButPlaces-sym v w same) steps stuck),
)

-- ---- where items must go on

forced : (w : Wiring) (waits : List (List Target)) (step : Step) → IsForcedStep w step
    → IsForcedStep (record w { waits = waits }) step
forced w waits (Queue i) h = h
forced w waits (Cancel i) h = h
forced w waits (Start q i) h = h
forced w waits (Wait q b) h = h
forced w waits (Over q b) h = h
forced w waits (WaitAll q b) h = h
forced w waits (OverAll q b) h = h
forced w waits (Finish q i) h = h
forced w waits (Help q h deed) goes = goes

stuck_for-same : (v w : Wiring) → SameButPlaces v w → (named : List ℕ) (steps : List Step) → IsRun v steps
    → IsStuckFor v named (end_of v steps) → IsStuckFor w named (end_of w steps)
stuck_for-same v w same named steps run stuck =
    let more = DeclaresMore-same v w same in
    record {
      item = stuck.item;
      is_named = stuck.is_named;
      left = subst (λ (s : State). HasUnfinishedOf s stuck.item) (end_of-more v w steps more) stuck.left;
      no_step = λ step is lawful. stuck.no_step step
          (subst (λ (u : Wiring). IsForcedStep u step) (sym more.rest) (forced w v.waits step is))
          (lawful-same w v (SameButPlaces-sym v w same) steps step (IsRun-more v w steps more run) lawful);
    }

deadlock_for-same : (v w : Wiring) → SameButPlaces v w → (named : List ℕ) (steps : List Step)
    → DeadlocksFor v named steps → DeadlocksFor w named steps
deadlock_for-same v w same named steps by = record {
  run = IsRun-more v w steps (DeclaresMore-same v w same) by.run;
  once = once-same v w same steps by.once;
  as_declared = AsDeclared-same v w steps same by.as_declared;
  no_help = by.no_help;
  stuck = stuck_for-same v w same named steps by.run by.stuck;
}

pub end_for-same : (v w : Wiring) → SameButPlaces v w → (named : List ℕ) (steps : List Step) (e : RunEnd)
    → EndsFor v named steps e → EndsFor w named steps e
end_for-same v w same named steps (NotLawful n) is = unlawful-same v w same steps n is
end_for-same v w same named steps Deadlock by = deadlock_for-same v w same named steps by
end_for-same v w same named steps Stuck (run, stuck, no_deadlock) = (
  IsRun-more v w steps (DeclaresMore-same v w same) run,
  stuck_for-same v w same named steps run stuck,
  λ by. no_deadlock (deadlock_for-same w v (SameButPlaces-sym v w same) named steps by),
)
end_for-same v w same named steps Free (run, free) =
    let there : IsRun w steps = IsRun-more v w steps (DeclaresMore-same v w same) run in (
      there,
      λ stuck. free (stuck_for-same w v (SameButPlaces-sym v w same) named steps there stuck),
    )
