-- Runs without a helper's step: they don't depend on the number of helpers.
use Rattle.std.proofs.Common.{◌≡◌, ℕ, zero, suc, inl, inr, Bool, true, false, List, [], ◌∷◌, get_or, Some, None, refl, sym, ap, subst, ◌∙◌, arith}
use Rattle.std.proofs.lemmas.List.Elements.{All-nil, All-cons, All-head, All-tail}
use Rattle.wq_core.specs.declared.entry.Running.{Running}
use Rattle.wq_core.specs.declared.step.Step.{Step}
use Rattle.wq_core.specs.declared.step.Step.TheVariants.{Queue, Cancel, Start, Wait, Over, WaitAll, OverAll, Finish, Help}
use Rattle.wq_core.specs.declared.step.HelpStep.{HelpStep}
use Rattle.wq_core.specs.declared.step.HelpStep.TheVariants.{Start as DoStart, Wait as DoWait, WaitAll as DoWaitAll, Over as DoOver, OverAll as DoOverAll, Finish as DoFinish}
use Rattle.wq_core.specs.Wiring.{Wiring, with_helpers}
use Rattle.wq_core.specs.State.{Lane, State, lane_at, with_lane, empty_state, RunsIn}
use Rattle.wq_core.specs.Rules.{MayWait, Lawful, effect}
use Rattle.wq_core.specs.Runs.{after, IsRunFrom, IsRun, end_of, IsHelp, HasNoHelp, GoesOn, IsForcedStep, KeepsOrder, AsDeclaredFrom}
use Rattle.wq_core.specs.Deadlock.{IsStuck, DeadlocksBy}
use Rattle.wq_core.proofs.Contexts.{none_there, helpers_of-few}
use Rattle.wq_core.proofs.LaneLemmas.{cases_with_lane, lane_at-empty_state}

abbrev NotHelp : Step → Type 0
NotHelp step = ¬ IsHelp step

no_help-head : (step : Step) (steps : List Step) → HasNoHelp (step ∷ steps) → ¬ IsHelp step
no_help-head step steps none = All-head NotHelp step steps none

no_help-tail : (step : Step) (steps : List Step) → HasNoHelp (step ∷ steps) → HasNoHelp steps
no_help-tail step steps none = All-tail NotHelp step steps none

-- ---- the same steps

module _ (w : Wiring) (m n : ℕ) where
  same-MayWait : (whole : Bool) (b : ℕ) (r : Running) → MayWait (with_helpers w m) whole b r → MayWait (with_helpers w n) whole b r
  same-MayWait whole b r may = record { awake = may.awake; declared = may.declared; fewer = may.fewer }

  same-lawful : (s : State) (step : Step) → ¬ IsHelp step → Lawful (with_helpers w m) s step → Lawful (with_helpers w n) s step
  same-lawful s (Queue i) none h = h
  same-lawful s (Cancel i) none h = h
  same-lawful s (Start q i) none h = h
  same-lawful s (Wait q b) none (r, runs, may) = (r, runs, same-MayWait false b r may)
  same-lawful s (WaitAll q b) none (r, runs, may) = (r, runs, same-MayWait true b r may)
  same-lawful s (Over q b) none (r, runs, may) = (r, runs, record { flush = may.flush; waits = may.waits; kind = may.kind; target = may.target; done = may.done })
  same-lawful s (OverAll q b) none (r, runs, may) = (r, runs, record { flush = may.flush; waits = may.waits; kind = may.kind; target = may.target; done = may.done })
  same-lawful s (Finish q i) none h = h
  same-lawful s (Help q k deed) none h = absurd (none tt)

  same-effect : (s : State) (step : Step) → ¬ IsHelp step → effect (with_helpers w m) s step ≡ effect (with_helpers w n) s step
  same-effect s (Queue i) none = refl
  same-effect s (Cancel i) none = refl
  same-effect s (Start q i) none = refl
  same-effect s (Wait q b) none = refl
  same-effect s (WaitAll q b) none = refl
  same-effect s (Over q b) none = refl
  same-effect s (OverAll q b) none = refl
  same-effect s (Finish q i) none = refl
  same-effect s (Help q k deed) none = absurd (none tt)

  pub same-run : (s : State) (steps : List Step) → HasNoHelp steps → IsRunFrom (with_helpers w m) s steps → IsRunFrom (with_helpers w n) s steps
  same-run s [] none run = tt
  same-run s (step ∷ steps) none run =
      let head = no_help-head step steps none in
      let rest = same-run (effect (with_helpers w m) s step) steps (no_help-tail step steps none) run.1 in
      (same-lawful s step head run.0, subst (λ (t : State). IsRunFrom (with_helpers w n) t steps) (same-effect s step head) rest)

  pub same-after : (s : State) (steps : List Step) → HasNoHelp steps → after (with_helpers w m) s steps ≡ after (with_helpers w n) s steps
  same-after s [] none = refl
  same-after s (step ∷ steps) none =
      same-after (effect (with_helpers w m) s step) steps (no_help-tail step steps none)
      ∙ ap (λ (t : State). after (with_helpers w n) t steps) (same-effect s step (no_help-head step steps none))

  same-order : (s : State) (step : Step) → ¬ IsHelp step → KeepsOrder (with_helpers w m) s step → KeepsOrder (with_helpers w n) s step
  same-order s (Queue i) none h = h
  same-order s (Cancel i) none h = h
  same-order s (Start q i) none h = h
  same-order s (Wait q b) none h = h
  same-order s (WaitAll q b) none h = h
  same-order s (Over q b) none h = h
  same-order s (OverAll q b) none h = h
  same-order s (Finish q i) none h = h
  same-order s (Help q k deed) none h = absurd (none tt)

  same-as_declared : (s : State) (steps : List Step) → HasNoHelp steps → AsDeclaredFrom (with_helpers w m) s steps → AsDeclaredFrom (with_helpers w n) s steps
  same-as_declared s [] none as_declared = tt
  same-as_declared s (step ∷ steps) none as_declared =
      let head = no_help-head step steps none in
      let rest = same-as_declared (effect (with_helpers w m) s step) steps (no_help-tail step steps none) as_declared.1 in
      (same-order s step head as_declared.0, subst (λ (t : State). AsDeclaredFrom (with_helpers w n) t steps) (same-effect s step head) rest)

-- ---- no helper runs anything

abbrev IsQuiet : Lane → Type 0
IsQuiet lane = (h : ℕ) → get_or lane.helping h None ≡ None

abbrev AreQuiet : State → Type 0
AreQuiet s = (q : ℕ) → IsQuiet (lane_at s q)

quiet-with_lane : (s : State) (q : ℕ) (lane : Lane) → AreQuiet s → IsQuiet lane → AreQuiet (with_lane s q lane)
quiet-with_lane s q lane quiet new p = elim (cases_with_lane s q lane p) [
  | inl same ↦ subst IsQuiet (sym same) (quiet p)
  | inr there ↦ subst IsQuiet (sym there.1) new
]

quiet-effect : (w : Wiring) (s : State) (step : Step) → ¬ IsHelp step → AreQuiet s → AreQuiet (effect w s step)
quiet-effect w s (Queue i) none quiet = quiet-with_lane s _ _ quiet (quiet _)
quiet-effect w s (Cancel i) none quiet = quiet-with_lane s _ _ quiet (quiet _)
quiet-effect w s (Start q i) none quiet = quiet-with_lane s q _ quiet (quiet q)
quiet-effect w s (Wait q b) none quiet = quiet-with_lane s q _ quiet (quiet q)
quiet-effect w s (WaitAll q b) none quiet = quiet-with_lane s q _ quiet (quiet q)
quiet-effect w s (Over q b) none quiet = quiet-with_lane s q _ quiet (quiet q)
quiet-effect w s (OverAll q b) none quiet = quiet-with_lane s q _ quiet (quiet q)
quiet-effect w s (Finish q i) none quiet = quiet-with_lane s q _ quiet (quiet q)
quiet-effect w s (Help q k deed) none quiet = absurd (none tt)

quiet-after : (w : Wiring) (s : State) (steps : List Step) → HasNoHelp steps → AreQuiet s → AreQuiet (after w s steps)
quiet-after w s [] none quiet = quiet
quiet-after w s (step ∷ steps) none quiet =
    quiet-after w (effect w s step) steps (no_help-tail step steps none) (quiet-effect w s step (no_help-head step steps none) quiet)

quiet-empty : (w : Wiring) → AreQuiet (empty_state w)
quiet-empty w q = subst IsQuiet (sym (lane_at-empty_state w q)) (none_there 8)

-- what runs is run by a rescuer
abbrev pub OnlyRescuersRun : State → Type 0
OnlyRescuersRun s = (q c : ℕ) (r : Running) → RunsIn (lane_at s q) c r → c ≡ 0

pub only_rescuers-end_of : (w : Wiring) (steps : List Step) → HasNoHelp steps → OnlyRescuersRun (end_of w steps)
only_rescuers-end_of w steps none q c r runs = by c runs
  where
    by : (d : ℕ) → RunsIn (lane_at (end_of w steps) q) d r → d ≡ 0
    by zero there = refl
    by (suc h) there = absurd (let never : None ≡ Some r = sym (quiet-after w (empty_state w) steps none (quiet-empty w) q h) ∙ there in cc)

-- ---- stuck alike

-- where only rescuers run something, no helper goes on
pub no_helper-goes_on : (w : Wiring) (s : State) (q h : ℕ) (deed : HelpStep) → OnlyRescuersRun s → GoesOn deed → ¬ Lawful w s (Help q h deed)
no_helper-goes_on w s q h (DoStart i) only goes lawful = goes
no_helper-goes_on w s q h (DoWait b) only goes (has, (r, runs, may)) = let none : h ≡ 0 = only q h r runs in omega (arith, has.0, none)
no_helper-goes_on w s q h (DoWaitAll b) only goes (has, (r, runs, may)) = let none : h ≡ 0 = only q h r runs in omega (arith, has.0, none)
no_helper-goes_on w s q h (DoOver b) only goes (has, (r, runs, may)) = let none : h ≡ 0 = only q h r runs in omega (arith, has.0, none)
no_helper-goes_on w s q h (DoOverAll b) only goes (has, (r, runs, may)) = let none : h ≡ 0 = only q h r runs in omega (arith, has.0, none)
no_helper-goes_on w s q h (DoFinish i) only goes (has, (r, runs, may)) = let none : h ≡ 0 = only q h r runs in omega (arith, has.0, none)

same-stuck : (w : Wiring) (m n : ℕ) (s : State) → OnlyRescuersRun s → IsStuck (with_helpers w m) s → IsStuck (with_helpers w n) s
same-stuck w m n s only stuck = record { left = stuck.left; rescuer = stuck.rescuer; no_step = still }
  where
    still : (step : Step) → IsForcedStep (with_helpers w n) step → ¬ Lawful (with_helpers w n) s step
    still (Queue i) is lawful = is
    still (Cancel i) is lawful = is
    still (Start q i) is lawful = stuck.no_step (Start q i) is (same-lawful w n m s (Start q i) (λ help. help) lawful)
    still (Wait q b) is lawful = stuck.no_step (Wait q b) tt (same-lawful w n m s (Wait q b) (λ help. help) lawful)
    still (WaitAll q b) is lawful = stuck.no_step (WaitAll q b) tt (same-lawful w n m s (WaitAll q b) (λ help. help) lawful)
    still (Over q b) is lawful = stuck.no_step (Over q b) tt (same-lawful w n m s (Over q b) (λ help. help) lawful)
    still (OverAll q b) is lawful = stuck.no_step (OverAll q b) tt (same-lawful w n m s (OverAll q b) (λ help. help) lawful)
    still (Finish q i) is lawful = stuck.no_step (Finish q i) tt (same-lawful w n m s (Finish q i) (λ help. help) lawful)
    still (Help q h deed) is lawful = no_helper-goes_on (with_helpers w n) s q h deed only is lawful

pub stuck-alike : (w : Wiring) (m n : ℕ) (steps : List Step) → HasNoHelp steps
    → IsStuck (with_helpers w m) (end_of (with_helpers w m) steps) → IsStuck (with_helpers w n) (end_of (with_helpers w n) steps)
stuck-alike w m n steps none stuck =
    let only = only_rescuers-end_of (with_helpers w m) steps none in
    subst (IsStuck (with_helpers w n)) (same-after w m n (empty_state w) steps none) (same-stuck w m n (end_of (with_helpers w m) steps) only stuck)

-- ---- deadlocks

pub deadlocks-alike : (w : Wiring) (m n : ℕ) (steps : List Step) → DeadlocksBy (with_helpers w m) steps → DeadlocksBy (with_helpers w n) steps
deadlocks-alike w m n steps by = record {
  run = same-run w m n (empty_state w) steps by.no_help by.run;
  once = record { queued = by.once.queued; uncancelled = by.once.uncancelled };
  as_declared = same-as_declared w m n (empty_state w) steps by.no_help by.as_declared;
  no_help = by.no_help;
  stuck = stuck-alike w m n steps by.no_help by.stuck;
}

-- ---- where there are no helpers

pub no_help-lawful : (w : Wiring) (s : State) (step : Step) → w.helpers ≡ 0 → Lawful w s step → ¬ IsHelp step
no_help-lawful w s (Queue i) zero_helpers lawful help = help
no_help-lawful w s (Cancel i) zero_helpers lawful help = help
no_help-lawful w s (Start q i) zero_helpers lawful help = help
no_help-lawful w s (Wait q b) zero_helpers lawful help = help
no_help-lawful w s (WaitAll q b) zero_helpers lawful help = help
no_help-lawful w s (Over q b) zero_helpers lawful help = help
no_help-lawful w s (OverAll q b) zero_helpers lawful help = help
no_help-lawful w s (Finish q i) zero_helpers lawful help = help
no_help-lawful w s (Help q h deed) zero_helpers lawful help = omega (arith, lawful.0.0, lawful.0.1, helpers_of-few w q, zero_helpers)

no_help-run_from : (w : Wiring) (s : State) (steps : List Step) → w.helpers ≡ 0 → IsRunFrom w s steps → HasNoHelp steps
no_help-run_from w s [] none run = All-nil NotHelp
no_help-run_from w s (step ∷ steps) none run =
    All-cons NotHelp step steps (no_help-lawful w s step none run.0) (no_help-run_from w (effect w s step) steps none run.1)

pub no_help-run : (w : Wiring) (steps : List Step) → w.helpers ≡ 0 → IsRun w steps → HasNoHelp steps
no_help-run w steps none run = no_help-run_from w (empty_state w) steps none run
