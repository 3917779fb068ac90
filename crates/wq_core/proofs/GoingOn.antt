-- Items that must go on: what is stuck for them, and which lanes are bare.
use Rattle.std.proofs.Common.{◌≡◌, ◌↔◌, ℕ, zero, suc, ◌<◌, ◌≤◌, Bool, true, false, not, List, [], ◌∷◌, ◌++◌}
use Rattle.std.proofs.Common.{refl, sym, ap, subst, ◌∙◌, arith}
use Rattle.std.specs.Prelude.{Contains, filter, slice_index_or}
use Rattle.std.specs.List.{All, range_with_len}
use Rattle.std.proofs.lemmas.Bool.{not_from_false}
use Rattle.std.proofs.lemmas.List.Elements.{All-contains, filter_passes}
use Rattle.wq_items.proofs.Lists.{Contains-filtered, Contains-range_with_len}
use Rattle.wq_core.specs.declared.entry.Running.{Running}
use Rattle.wq_core.specs.declared.step.Step.{Step}
use Rattle.wq_core.specs.declared.step.Step.TheVariants.{Queue, Cancel, Start, Wait, Over, WaitAll, OverAll, Finish}
use Rattle.wq_core.specs.declared.step.Step.TheVariants.{Help}
use Rattle.wq_core.specs.declared.step.HelpStep.{HelpStep}
use Rattle.wq_core.specs.declared.step.HelpStep.TheVariants.{Start as DoStart, Wait as DoWait, WaitAll as DoWaitAll}
use Rattle.wq_core.specs.declared.step.HelpStep.TheVariants.{Over as DoOver, OverAll as DoOverAll, Finish as DoFinish}
use Rattle.wq_core.specs.Wiring.{Wiring, HasRescuer, items, lane_of, with_helpers, max_helpers}
use Rattle.wq_core.specs.State.{State, HasUnfinishedOf, empty_state}
use Rattle.wq_core.specs.Rules.{MayWait, MayBeOver, MayDo, Lawful, effect}
use Rattle.wq_core.specs.Runs.{after, IsRunFrom, IsRun, end_of, IsForcedStep}
use Rattle.wq_core.specs.Deadlock.{IsStuck, IsSafe, DeadlocksBy}
use Rattle.wq_core.specs.Held.{IsSoundState}
use Rattle.wq_core.specs.MustGoOn.{IsStuckFor, IsSafeFor, DeadlocksFor, HasFewerRescuers, rescued_items}
use Rattle.wq_core.proofs.Plays.{after-append, IsRunFrom-append}
use Rattle.wq_core.proofs.Sound.{IsSoundState-end_of}

not_true : (b : Bool) → not b ≡ true → b ≡ false
not_true true is = let never : false ≡ true = is in absurd cc
not_true false is = refl

-- ---- items whose lanes have a rescuer

module _ (w : Wiring) where
  abbrev is_rescued : ℕ → Bool
  is_rescued i = not (slice_index_or w.bare (lane_of w i) false)

  rescued-named : (i : ℕ) → i < items w → HasRescuer w (lane_of w i) → Contains (rescued_items w) i
  rescued-named i lt rescuer = Contains-filtered is_rescued (range_with_len 0 (items w)) i
      (not_from_false (slice_index_or w.bare (lane_of w i) false) rescuer) (Contains-range_with_len (items w) i lt)

  named-rescued : (i : ℕ) → Contains (rescued_items w) i → HasRescuer w (lane_of w i)
  named-rescued i there = not_true (slice_index_or w.bare (lane_of w i) false)
      (All-contains (λ (j : ℕ). is_rescued j ≡ true) (filter is_rescued (range_with_len 0 (items w))) i
      (filter_passes is_rescued (range_with_len 0 (items w))) there)

  module _ (s : State) (sound : IsSoundState w s) where
    stuck-for : IsStuck w s → IsStuckFor w (rescued_items w) s
    stuck-for h =
        let own = sound.own_lane h.left.lane h.left.entry h.left.unfinished in
        record {
          item = h.left.entry.item;
          is_named = rescued-named h.left.entry.item own.0 (subst (λ q. HasRescuer w q) (sym own.1) h.rescuer);
          left = record { lane = h.left.lane; entry = h.left.entry; unfinished = h.left.unfinished; of_item = refl };
          no_step = h.no_step;
        }

    for-stuck : IsStuckFor w (rescued_items w) s → IsStuck w s
    for-stuck h =
        let own = sound.own_lane h.left.lane h.left.entry h.left.unfinished in
        let lane : lane_of w h.item ≡ h.left.lane = subst (λ i. lane_of w i ≡ h.left.lane) h.left.of_item own.1 in
        record {
          left = record { lane = h.left.lane; entry = h.left.entry; unfinished = h.left.unfinished };
          rescuer = subst (λ q. HasRescuer w q) lane (named-rescued h.item h.is_named);
          no_step = h.no_step;
        }

pub stuck-rescued : (w : Wiring) (steps : List Step) → IsRun w steps
    → IsStuck w (end_of w steps) ↔ IsStuckFor w (rescued_items w) (end_of w steps)
stuck-rescued w steps run =
    let sound = IsSoundState-end_of w steps run in
    (stuck-for w (end_of w steps) sound, for-stuck w (end_of w steps) sound)

pub safe-rescued : (w : Wiring) → IsSafe w ↔ IsSafeFor w (rescued_items w)
safe-rescued w = (
  (λ safe n few steps run stuck. safe n few steps run ((stuck-rescued (with_helpers w n) steps run).1 stuck)),
  (λ safe n few steps run stuck. safe n few steps run ((stuck-rescued (with_helpers w n) steps run).0 stuck)),
)

pub deadlocks-rescued : (w : Wiring) (steps : List Step) → DeadlocksBy w steps ↔ DeadlocksFor w (rescued_items w) steps
deadlocks-rescued w steps = (
  (λ h. record {
    run = h.run;
    once = h.once;
    as_declared = h.as_declared;
    no_help = h.no_help;
    stuck = (stuck-rescued w steps h.run).0 h.stuck;
  }),
  (λ h. record {
    run = h.run;
    once = h.once;
    as_declared = h.as_declared;
    no_help = h.no_help;
    stuck = (stuck-rescued w steps h.run).1 h.stuck;
  }),
)

-- ---- what must go on comes to its end

pub comes_to_its_end : (w : Wiring) (named : List ℕ) (i : ℕ) (steps more : List Step) → w.helpers ≤ max_helpers
    → IsSafeFor w named → Contains named i → IsRun w steps → IsRunFrom w (end_of w steps) more
    → All (IsForcedStep w) more
    → ((step : Step) → IsForcedStep w step → ¬ Lawful w (after w (end_of w steps) more) step)
    → ¬ HasUnfinishedOf (after w (end_of w steps) more) i
comes_to_its_end w named i steps more few safe is_named run on forced none left =
    let whole : IsRun w (steps ++ more) = IsRunFrom-append w (empty_state w) steps more run on in
    let same : end_of w (steps ++ more) ≡ after w (end_of w steps) more = after-append w (empty_state w) steps more in
    let stuck : IsStuckFor w named (after w (end_of w steps) more) =
    record { item = i; is_named = is_named; left = left; no_step = none } in
    safe w.helpers few (steps ++ more) whole (subst (λ (s : State). IsStuckFor w named s) (sym same) stuck)

-- ---- several items

one-is : (i j : ℕ) → Contains (i ∷ []) j → j ≡ i
one-is i j (zero, within, is) = cc
one-is i j (suc k, within, is) = absurd (omega arith)

one-there : (i : ℕ) → Contains (i ∷ []) i
one-there i = (zero, omega arith, cc)

pub each-goes_on : (w : Wiring) (named : List ℕ)
    → IsSafeFor w named ↔ ((i : ℕ) → Contains named i → IsSafeFor w (i ∷ []))
each-goes_on w named = (
  (λ safe i there n few steps run stuck. safe n few steps run (record {
    item = i;
    is_named = there;
    left = subst (λ j. HasUnfinishedOf (end_of (with_helpers w n) steps) j) (one-is i stuck.item stuck.is_named)
        stuck.left;
    no_step = stuck.no_step;
  })),
  (λ each n few steps run stuck. each stuck.item stuck.is_named n few steps run (record {
    item = stuck.item;
    is_named = one-there stuck.item;
    left = stuck.left;
    no_step = stuck.no_step;
  })),
)

-- ---- which lanes are bare changes no run

module _ (w : Wiring) (b : List Bool) where
  abbrev other : Wiring
  other = record w { bare = b }

  effect-bare : (s : State) (step : Step) → effect other s step ≡ effect w s step
  effect-bare s (Queue i) = refl
  effect-bare s (Cancel i) = refl
  effect-bare s (Start q i) = refl
  effect-bare s (Wait q t) = refl
  effect-bare s (Over q t) = refl
  effect-bare s (WaitAll q t) = refl
  effect-bare s (OverAll q t) = refl
  effect-bare s (Finish q i) = refl
  effect-bare s (Help q h deed) = refl

  after-bare : (s : State) (steps : List Step) → after other s steps ≡ after w s steps
  after-bare s [] = refl
  after-bare s (step ∷ steps) =
      ap (λ (t : State). after other t steps) (effect-bare s step) ∙ after-bare (effect w s step) steps

  MayWait-there : (whole : Bool) (t : ℕ) (r : Running) → MayWait w whole t r → MayWait other whole t r
  MayWait-there whole t r h = record { awake = h.awake; declared = h.declared; fewer = h.fewer }

  MayBeOver-there : (s : State) (whole : Bool) (t : ℕ) (r : Running) → MayBeOver w s whole t r
      → MayBeOver other s whole t r
  MayBeOver-there s false t r h =
      record { flush = h.flush; waits = h.waits; kind = h.kind; target = h.target; done = h.done }
  MayBeOver-there s true t r h =
      record { flush = h.flush; waits = h.waits; kind = h.kind; target = h.target; done = h.done }

  MayDo-there : (s : State) (q c : ℕ) (deed : HelpStep) → MayDo w s q c deed → MayDo other s q c deed
  MayDo-there s q c (DoStart i) h = h
  MayDo-there s q c (DoWait t) (r, runs, may) = (r, runs, MayWait-there false t r may)
  MayDo-there s q c (DoWaitAll t) (r, runs, may) = (r, runs, MayWait-there true t r may)
  MayDo-there s q c (DoOver t) (r, runs, may) = (r, runs, MayBeOver-there s false t r may)
  MayDo-there s q c (DoOverAll t) (r, runs, may) = (r, runs, MayBeOver-there s true t r may)
  MayDo-there s q c (DoFinish i) h = h

  Lawful-there : (s : State) (step : Step) → Lawful w s step → Lawful other s step
  Lawful-there s (Queue i) h = h
  Lawful-there s (Cancel i) h = h
  Lawful-there s (Start q i) h = h
  Lawful-there s (Wait q t) h = MayDo-there s q 0 (DoWait t) h
  Lawful-there s (Over q t) h = MayDo-there s q 0 (DoOver t) h
  Lawful-there s (WaitAll q t) h = MayDo-there s q 0 (DoWaitAll t) h
  Lawful-there s (OverAll q t) h = MayDo-there s q 0 (DoOverAll t) h
  Lawful-there s (Finish q i) h = h
  Lawful-there s (Help q h deed) law = (law.0, MayDo-there s q h deed law.1)

  IsRunFrom-there : (s : State) (steps : List Step) → IsRunFrom w s steps → IsRunFrom other s steps
  IsRunFrom-there s [] h = tt
  IsRunFrom-there s (step ∷ steps) h = (
    Lawful-there s step h.0,
    subst (λ (t : State). IsRunFrom other t steps) (sym (effect-bare s step))
        (IsRunFrom-there (effect w s step) steps h.1),
  )

-- what is forced with fewer rescuers is forced with more, and lawful in both
module _ (w : Wiring) (b : List Bool) (rescuer : (q : ℕ) → HasRescuer (other w b) q → HasRescuer w q) where
  forced-back : (step : Step) → IsForcedStep (other w b) step → IsForcedStep w step
  forced-back (Queue i) h = h
  forced-back (Cancel i) h = h
  forced-back (Start q i) h = rescuer q h
  forced-back (Wait q t) h = tt
  forced-back (Over q t) h = tt
  forced-back (WaitAll q t) h = tt
  forced-back (OverAll q t) h = tt
  forced-back (Finish q i) h = tt
  forced-back (Help q h deed) goes = goes

  stuck-there : (named : List ℕ) (steps : List Step) → IsStuckFor w named (end_of w steps)
      → IsStuckFor (other w b) named (end_of (other w b) steps)
  stuck-there named steps h = subst (λ (s : State). IsStuckFor (other w b) named s)
      (sym (after-bare w b (empty_state w) steps)) (record {
        item = h.item;
        is_named = h.is_named;
        left = h.left;
        no_step = λ step f law. h.no_step step (forced-back step f)
            (Lawful-there (other w b) w.bare (end_of w steps) step law);
      })

HasFewerRescuers-helpers : (v w : Wiring) (n : ℕ) → HasFewerRescuers v w
    → HasFewerRescuers (with_helpers v n) (with_helpers w n)
HasFewerRescuers-helpers v w n h =
    record { rest = ap (λ (u : Wiring). with_helpers u n) h.rest; rescuer = h.rescuer }

pub still-stuck : (v w : Wiring) (named : List ℕ) (n : ℕ) (steps : List Step) → HasFewerRescuers v w
    → IsRun (with_helpers w n) steps → IsStuckFor (with_helpers w n) named (end_of (with_helpers w n) steps)
    → IsRun (with_helpers v n) steps × IsStuckFor (with_helpers v n) named (end_of (with_helpers v n) steps)
still-stuck v w named n steps fewer run stuck =
    let h = HasFewerRescuers-helpers v w n fewer in
    let here = with_helpers w n in
    let rescuer : (q : ℕ) → HasRescuer (other here v.bare) q → HasRescuer here q = λ q r. fewer.rescuer q r in
    subst (λ (u : Wiring). IsRun u steps × IsStuckFor u named (end_of u steps)) (sym h.rest)
    (IsRunFrom-there here v.bare (empty_state here) steps run, stuck-there here v.bare rescuer named steps stuck)

pub still-held : (v w : Wiring) (named : List ℕ) → HasFewerRescuers v w → IsSafeFor v named → IsSafeFor w named
still-held v w named fewer safe n few steps run stuck =
    let now = still-stuck v w named n steps fewer run stuck in
    safe n few steps now.0 now.1
