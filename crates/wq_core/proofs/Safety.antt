-- If numbers of lanes fall along every declared flush, no run ends stuck, whatever the number of helpers.
use Rattle.std.proofs.Common.{◌≡◌, ℕ, zero, suc, ◌+◌, ◌<◌, ◌≤◌, inl, inr, List, [], Option, Some, None, refl, sym, ap, subst, ◌∙◌, arith, Bool, true, false}
use Rattle.std.specs.Prelude.{Contains}
use Rattle.wq_items.specs.Table.{ItemWaits}
use Rattle.wq_core.specs.declared.entry.Entry.{Entry}
use Rattle.wq_core.specs.declared.entry.Waiting.{Waiting}
use Rattle.wq_core.specs.declared.entry.Running.{Running}
use Rattle.wq_core.specs.declared.step.Step.{Step}
use Rattle.wq_core.specs.declared.step.Step.TheVariants.{Start}
use Rattle.wq_core.specs.declared.step.HelpStep.{HelpStep}
use Rattle.wq_core.specs.declared.step.HelpStep.TheVariants.{Start as DoStart, Wait as DoWait, WaitAll as DoWaitAll, Over as DoOver, OverAll as DoOverAll, Finish as DoFinish}
use Rattle.wq_core.specs.Wiring.{Wiring, HasRescuer, with_helpers, helpers_of, lane_of}
use Rattle.wq_core.specs.State.{State, lane_at, RunsIn, is_running, next_of, IsUnfinishedOn}
use Rattle.wq_core.specs.Rules.{IsHeldBack, MayDo, Lawful, step_in}
use Rattle.wq_core.specs.Runs.{IsRun, end_of, GoesOn, IsForcedStep}
use Rattle.wq_core.specs.Held.{IsSoundState}
use Rattle.wq_core.specs.Deadlock.{IsStuck, IsSafe}
use Rattle.wq_core.proofs.Contexts.{none_passes, is_running-some}
use Rattle.wq_core.proofs.LaneLemmas.{ItemWaits-by}
use Rattle.wq_core.proofs.Machines.{unfinished-own_lane}
use Rattle.wq_core.proofs.Sound.{IsSoundState-end_of}
use Rattle.wq_core.proofs.Wirings.{all_have}

-- ---- a context goes on with what it runs

-- it makes the step, if it is the rescuer or a helper that the lane has
pub lawful-step_in : (w : Wiring) (s : State) (q c : ℕ) (deed : HelpStep) → c ≤ helpers_of w q → GoesOn deed → MayDo w s q c deed → Lawful w s (step_in q c deed)
lawful-step_in w s q zero (DoStart i) le goes may = absurd goes
lawful-step_in w s q zero (DoWait b) le goes may = may
lawful-step_in w s q zero (DoWaitAll b) le goes may = may
lawful-step_in w s q zero (DoOver b) le goes may = may
lawful-step_in w s q zero (DoOverAll b) le goes may = may
lawful-step_in w s q zero (DoFinish i) le goes may = may
lawful-step_in w s q (suc h) deed le goes may = ((omega arith, le), may)

pub forced-step_in : (w : Wiring) (q c : ℕ) (deed : HelpStep) → GoesOn deed → IsForcedStep w (step_in q c deed)
forced-step_in w q zero (DoStart i) goes = absurd goes
forced-step_in w q zero (DoWait b) goes = tt
forced-step_in w q zero (DoWaitAll b) goes = tt
forced-step_in w q zero (DoOver b) goes = tt
forced-step_in w q zero (DoOverAll b) goes = tt
forced-step_in w q zero (DoFinish i) goes = tt
forced-step_in w q (suc h) deed goes = goes

-- what runs can go on or finish, unless something holds back what it waits for
pub goes_on-or_held_back : (w : Wiring) (s : State) (q c : ℕ) (r : Running) → RunsIn (lane_at s q) c r
    → ((f : Waiting) → r.waiting ≡ Some f → ¬ IsHeldBack w s f.whole f.target f.mark) → (deed : HelpStep) × GoesOn deed × MayDo w s q c deed
goes_on-or_held_back w s q c r runs done = by_waiting r.waiting refl
  where
    by_kind : (f : Waiting) → r.waiting ≡ Some f → (whole : Bool) → f.whole ≡ whole → (deed : HelpStep) × GoesOn deed × MayDo w s q c deed
    by_kind f waits false kind =
        let over : ¬ IsHeldBack w s false f.target f.mark = subst (λ (k : Bool). ¬ IsHeldBack w s k f.target f.mark) kind (done f waits) in
        (DoOver f.target, tt, (r, runs, record { flush = f; waits = waits; kind = kind; target = refl; done = over }))
    by_kind f waits true kind =
        let over : ¬ IsHeldBack w s true f.target f.mark = subst (λ (k : Bool). ¬ IsHeldBack w s k f.target f.mark) kind (done f waits) in
        (DoOverAll f.target, tt, (r, runs, record { flush = f; waits = waits; kind = kind; target = refl; done = over }))

    by_waiting : (o : Option Waiting) → r.waiting ≡ o → (deed : HelpStep) × GoesOn deed × MayDo w s q c deed
    by_waiting None awake = (DoFinish r.entry.item, tt, (r, runs, record { entry = refl; awake = awake }))
    by_waiting (Some f) waits = by_kind f waits f.whole refl

-- ---- lanes with falling numbers

-- a number for each lane, which falls from the lane of an item, if it has a rescuer, to that of each item that it waits for, which
-- has one, too
abbrev Falls : Wiring → (ℕ → ℕ) → Type 0
Falls w number = (i j : ℕ) → ItemWaits w.waits i j → HasRescuer w (lane_of w i) → HasRescuer w (lane_of w j) × (number (lane_of w j) < number (lane_of w i))

-- what holds a wait back is on the lane of its target
unfinished-held_back : (w : Wiring) (s : State) (whole : Bool) (b mark : ℕ) → IsSoundState w s → IsHeldBack w s whole b mark
    → (e : Entry) × IsUnfinishedOn (lane_at s (lane_of w b)) e
unfinished-held_back w s false b mark sound h = (h.entry, subst (λ (p : ℕ). IsUnfinishedOn (lane_at s p) h.entry) (unfinished-own_lane w s b mark sound h).1 h.unfinished)
unfinished-held_back w s true b mark sound h = (h.entry, h.unfinished)

module _ (w : Wiring) (s : State) (number : ℕ → ℕ) (falls : Falls w number) (sound : IsSoundState w s) (no_step : (step : Step) → IsForcedStep w step → ¬ Lawful w s step) where
  -- nothing is unfinished on lanes that have a rescuer and a number below n
  abbrev NoneBelow : ℕ → Type 0
  NoneBelow n = (p : ℕ) → HasRescuer w p → number p < n → (e : Entry) → ¬ IsUnfinishedOn (lane_at s p) e

  -- the wait of a context is over if nothing is unfinished on such lanes with lower numbers
  wait_is_over : (q c : ℕ) (r : Running) → HasRescuer w q → NoneBelow (number q) → RunsIn (lane_at s q) c r → (flush : Waiting) → r.waiting ≡ Some flush
      → ¬ IsHeldBack w s flush.whole flush.target flush.mark
  wait_is_over q c r rescuer none runs flush waits held =
      let own : lane_of w r.entry.item ≡ q = (sound.own_lane q r.entry (inr (c, r, runs, refl))).1 in
      let (e, left) = unfinished-held_back w s flush.whole flush.target flush.mark sound held in
      let lower = falls r.entry.item flush.target (ItemWaits-by w.waits flush.whole r.entry.item flush.target ((sound.running q c r runs).waits flush waits).1) (subst (HasRescuer w) (sym own) rescuer) in
      let less : number (lane_of w flush.target) < number q = subst (λ (p : ℕ). number (lane_of w flush.target) < number p) own lower.1 in
      none (lane_of w flush.target) lower.0 less e left

  -- then no context runs anything, since it could go on or finish
  nothing_runs : (q : ℕ) → HasRescuer w q → NoneBelow (number q) → (c : ℕ) (r : Running) → ¬ RunsIn (lane_at s q) c r
  nothing_runs q rescuer none c r runs =
      let (deed, goes, may) = goes_on-or_held_back w s q c r runs (wait_is_over q c r rescuer none runs) in
      no_step (step_in q c deed) (forced-step_in w q c deed goes) (lawful-step_in w s q c deed (sound.helpers q c r runs) goes may)

  -- and nothing is pending, since the rescuer could start it
  nothing_pending : (q : ℕ) → HasRescuer w q → NoneBelow (number q) → (e : Entry) → ¬ Contains (lane_at s q).pending e
  nothing_pending q rescuer none e pending = by_next (next_of (lane_at s q)) refl
    where
      idle : (o : Option Running) → (lane_at s q).running ≡ o → (lane_at s q).running ≡ None
      idle None is = is
      idle (Some r) is = absurd (nothing_runs q rescuer none 0 r is)

      by_next : (o : Option Entry) → next_of (lane_at s q) ≡ o → ⊥
      by_next (Some f) first = no_step (Start q f.item) rescuer (record { idle = idle (lane_at s q).running refl; entry = f; first = first; of_item = refl })
      by_next None first =
          let some = is_running-some (lane_at s q) e.item (none_passes (lane_at s q).pending (is_running (lane_at s q)) first e pending) in
          nothing_runs q rescuer none some.0 some.1 some.2

  none_on : (q : ℕ) → HasRescuer w q → NoneBelow (number q) → (e : Entry) → ¬ IsUnfinishedOn (lane_at s q) e
  none_on q rescuer none e (inl pending) = nothing_pending q rescuer none e pending
  none_on q rescuer none e (inr (c, r, runs, same)) = nothing_runs q rescuer none c r runs

  none_below : (n : ℕ) → NoneBelow n
  none_below zero p rescuer lt = absurd (omega arith)
  none_below (suc n) p rescuer lt = none_on p rescuer (λ o has less. none_below n o has (omega arith))

pub IsSafe-rescued : (w : Wiring) (number : ℕ → ℕ)
    → ((i j : ℕ) → ItemWaits w.waits i j → HasRescuer w (lane_of w i) → HasRescuer w (lane_of w j) × (number (lane_of w j) < number (lane_of w i))) → IsSafe w
IsSafe-rescued w number falls n few steps run stuck =
    let v : Wiring = with_helpers w n in
    let s : State = end_of v steps in
    let left = stuck.left in
    let sound : IsSoundState v s = IsSoundState-end_of v steps run in
    none_below v s number falls sound stuck.no_step (number left.lane + 1) left.lane stuck.rescuer (omega arith) left.entry left.unfinished

-- where each lane has a rescuer
pub IsSafe-falls : (w : Wiring) (number : ℕ → ℕ) → w.bare ≡ []
    → ((i j : ℕ) → ItemWaits w.waits i j → number (lane_of w j) < number (lane_of w i)) → IsSafe w
IsSafe-falls w number none falls = IsSafe-rescued w number (λ i j waits rescuer. (all_have w none (lane_of w j), falls i j waits))

-- no run of a safe wiring ends stuck
pub not_stuck : (w : Wiring) (steps : List Step) → w.helpers ≤ 8 → IsSafe w → IsRun w steps → ¬ IsStuck w (end_of w steps)
not_stuck w steps few safe run stuck = safe w.helpers few steps run stuck

-- after a run no item is run by two contexts
pub one_context-end_of : (w : Wiring) (steps : List Step) (q p c d : ℕ) (r x : Running) → IsRun w steps → RunsIn (lane_at (end_of w steps) q) c r → RunsIn (lane_at (end_of w steps) p) d x
    → r.entry.item ≡ x.entry.item → (q ≡ p) × (c ≡ d)
one_context-end_of w steps q p c d r x run runs other same =
    let s : State = end_of w steps in
    let sound : IsSoundState w s = IsSoundState-end_of w steps run in
    let one : lane_of w r.entry.item ≡ q = (sound.own_lane q r.entry (inr (c, r, runs, refl))).1 in
    let two : lane_of w x.entry.item ≡ p = (sound.own_lane p x.entry (inr (d, x, other, refl))).1 in
    let lanes : q ≡ p = sym one ∙ ap (λ i. lane_of w i) same ∙ two in
    (lanes, sound.one_context p c d r x (subst (λ k. RunsIn (lane_at s k) c r) lanes runs) other same)
