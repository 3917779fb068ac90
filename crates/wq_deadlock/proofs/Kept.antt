-- Steps: what was unfinished stays so, except for what is finished, and no other lane becomes movable, except for one whose wait
-- was held back by that.
use Rattle.std.proofs.Common.{◌≡◌, ◌≢◌, ℕ, zero, suc, ◌⊎◌, inl, inr, Bool, true, false}
use Rattle.std.proofs.Common.{refl, sym, ap, subst, ◌∙◌, arith}
use Rattle.wq_core.specs.declared.entry.Entry.{Entry}
use Rattle.wq_core.specs.declared.entry.Waiting.{Waiting}
use Rattle.wq_core.specs.declared.entry.Running.{Running}
use Rattle.wq_core.specs.declared.step.Step.{Step}
use Rattle.wq_core.specs.declared.step.Step.TheVariants.{Queue, Cancel, Start, Wait, Over, WaitAll}
use Rattle.wq_core.specs.declared.step.Step.TheVariants.{OverAll, Finish, Help}
use Rattle.wq_core.specs.Wiring.{Wiring, lane_of}
use Rattle.wq_core.specs.State.{Lane, State, lane_at, with_lane, Runs, IsUnfinishedOn}
use Rattle.wq_core.specs.Rules.{IsHeldBack, IsHolder, MayStartFirst, MayBeOver, waiting_for, going_on, with_started}
use Rattle.wq_core.specs.Rules.{with_wait, with_over, with_finished, effect}
use Rattle.wq_core.specs.Held.{IsSoundState}
use Rattle.wq_core.specs.Played.{IsStepOfLane, IsDeclaredStep, HasNoDeclaredStep}
use Rattle.wq_core.proofs.LaneLemmas.{cases_with_lane, lane_at-with_lane_other, same_running}
use Rattle.wq_core.proofs.Knots.{unfinished-started, unfinished-going_on}
use Rattle.wq_core.proofs.WaitSteps.{held_back-holder}
use Rattle.wq_deadlock.specs.Stuck.{Awaits}

-- the step of lane q doesn't finish item i
abbrev pub LeavesItem : ℕ → Step → ℕ → Type 0
LeavesItem q step i = (j : ℕ) → step ≡ Finish q j → i ≢ j

-- ---- what is unfinished

-- an entry stays unfinished if it does on the lane that changes
unfinished-with_lane : (s : State) (q : ℕ) (new : Lane) (e : Entry) → (IsUnfinishedOn (lane_at s q) e → IsUnfinishedOn new e)
    → (k : ℕ) → IsUnfinishedOn (lane_at s k) e → IsUnfinishedOn (lane_at (with_lane s q new) k) e
unfinished-with_lane s q new e keeps k h = elim (cases_with_lane s q new k) [
  | inl same ↦ subst (λ (l : Lane). IsUnfinishedOn l e) (sym same) h
  | inr there ↦ subst (λ (l : Lane). IsUnfinishedOn l e) (sym there.1) (keeps (subst (λ (p : ℕ). IsUnfinishedOn (lane_at s p) e) there.0 h))
]

unfinished-wait : (s : State) (q : ℕ) (whole : Bool) (b : ℕ) (e : Entry) (k : ℕ) → IsUnfinishedOn (lane_at s k) e
    → IsUnfinishedOn (lane_at (with_lane s q (with_wait 0 whole b s.next (lane_at s q))) k) e
unfinished-wait s q whole b e k h =
    unfinished-with_lane s q (with_wait 0 whole b s.next (lane_at s q)) e (unfinished-going_on (lane_at s q) 0 (waiting_for whole b s.next) e (λ r. refl)) k h

unfinished-over : (s : State) (q : ℕ) (e : Entry) (k : ℕ) → IsUnfinishedOn (lane_at s k) e → IsUnfinishedOn (lane_at (with_lane s q (with_over 0 (lane_at s q))) k) e
unfinished-over s q e k h =
    unfinished-with_lane s q (with_over 0 (lane_at s q)) e (unfinished-going_on (lane_at s q) 0 going_on e (λ r. refl)) k h

-- an entry stays unfinished after a step, unless it is finished
unfinished-step : (w : Wiring) (s : State) (q : ℕ) (step : Step) → IsSoundState w s → IsDeclaredStep w s q step → (e : Entry) → LeavesItem q step e.item → (k : ℕ) → IsUnfinishedOn (lane_at s k) e
    → IsUnfinishedOn (lane_at (effect w s step) k) e
unfinished-step w s q (Queue i) sound is e leaves k h = absurd is.of_lane
unfinished-step w s q (Cancel i) sound is e leaves k h = absurd is.of_lane
unfinished-step w s q (Start p i) sound is e leaves k h = unfinished-with_lane s p (with_started 0 i (lane_at s p)) e (unfinished-started (lane_at s p) 0 i e (sound.once p) (omega arith) is.lawful.idle) k h
unfinished-step w s q (Wait p b) sound is e leaves k h = unfinished-wait s p false b e k h
unfinished-step w s q (Over p b) sound is e leaves k h = unfinished-over s p e k h
unfinished-step w s q (WaitAll p b) sound is e leaves k h = unfinished-wait s p true b e k h
unfinished-step w s q (OverAll p b) sound is e leaves k h = unfinished-over s p e k h
unfinished-step w s q (Help p c deed) sound is e leaves k h = absurd is.of_lane
unfinished-step w s q (Finish p i) sound is e leaves k h = unfinished-with_lane s p (with_finished 0 (lane_at s p)) e keeps k h
  where
    keeps : IsUnfinishedOn (lane_at s p) e → IsUnfinishedOn (with_finished 0 (lane_at s p)) e
    keeps (inl pending) = inl pending
    keeps (inr (suc h, x, runs, same)) = inr (suc h, x, runs, same)
    keeps (inr (zero, x, runs, same)) =
        let (r, ran, may) = is.lawful in
        let item : e.item ≡ i = ap (λ (f : Entry). f.item) (sym same) ∙ ap (λ (y : Running). y.entry.item) (same_running (lane_at s p) 0 x r runs ran) ∙ may.entry in
        absurd (leaves i (ap (λ n. Finish n i) is.of_lane) item)

-- an item that isn't finished still holds back what it held back
pub IsHolder-step : (w : Wiring) (s : State) (q : ℕ) (step : Step) → IsSoundState w s → IsDeclaredStep w s q step → (whole : Bool) (b mark i : ℕ) → LeavesItem q step i → IsHolder w s whole b mark i
    → IsHolder w (effect w s step) whole b mark i
IsHolder-step w s q step sound is whole b mark i leaves h = record {
  entry = h.entry;
  unfinished = unfinished-step w s q step sound is h.entry (λ j made same. leaves j made (sym h.of_item ∙ same)) (lane_of w b) h.unfinished;
  of_item = h.of_item;
  below = h.below;
  itself = h.itself;
}

-- where nothing is finished, what was held back still is
held_back-step : (w : Wiring) (s : State) (q : ℕ) (step : Step) → IsSoundState w s → IsDeclaredStep w s q step → ((j : ℕ) → ¬ (step ≡ Finish q j)) → (whole : Bool) (b mark : ℕ) → IsHeldBack w s whole b mark
    → IsHeldBack w (effect w s step) whole b mark
held_back-step w s q step sound is nothing false b mark h =
    record { lane = h.lane; entry = h.entry; unfinished = unfinished-step w s q step sound is h.entry (λ j made. absurd (nothing j made)) h.lane h.unfinished; of_item = h.of_item; below = h.below }
held_back-step w s q step sound is nothing true b mark h =
    record { entry = h.entry; unfinished = unfinished-step w s q step sound is h.entry (λ j made. absurd (nothing j made)) (lane_of w b) h.unfinished; below = h.below }

-- ---- lanes that can't move

-- another lane stays as it was
pub lane_at-other : (w : Wiring) (s : State) (q : ℕ) (step : Step) → IsDeclaredStep w s q step → (p : ℕ) → p ≢ q → lane_at (effect w s step) p ≡ lane_at s p
lane_at-other w s q (Queue i) is p other = absurd is.of_lane
lane_at-other w s q (Cancel i) is p other = absurd is.of_lane
lane_at-other w s q (Start k i) is p other = lane_at-with_lane_other s k (with_started 0 i (lane_at s k)) p (λ same. other (same ∙ is.of_lane))
lane_at-other w s q (Wait k b) is p other = lane_at-with_lane_other s k (with_wait 0 false b s.next (lane_at s k)) p (λ same. other (same ∙ is.of_lane))
lane_at-other w s q (Over k b) is p other = lane_at-with_lane_other s k (with_over 0 (lane_at s k)) p (λ same. other (same ∙ is.of_lane))
lane_at-other w s q (WaitAll k b) is p other = lane_at-with_lane_other s k (with_wait 0 true b s.next (lane_at s k)) p (λ same. other (same ∙ is.of_lane))
lane_at-other w s q (OverAll k b) is p other = lane_at-with_lane_other s k (with_over 0 (lane_at s k)) p (λ same. other (same ∙ is.of_lane))
lane_at-other w s q (Finish k i) is p other = lane_at-with_lane_other s k (with_finished 0 (lane_at s k)) p (λ same. other (same ∙ is.of_lane))
lane_at-other w s q (Help k c deed) is p other = absurd is.of_lane

-- a lane that can't move still can't, if it stays as it was and its wait is still held back
HasNoDeclaredStep-same : (w : Wiring) (s t : State) (p : ℕ) → lane_at t p ≡ lane_at s p
    → ((f : Waiting) → Awaits s p f → IsHeldBack w s f.whole f.target f.mark → IsHeldBack w t f.whole f.target f.mark) → HasNoDeclaredStep w s p → HasNoDeclaredStep w t p
HasNoDeclaredStep-same w s t p same keeps still = moves
  where
    lane : (k : ℕ) → k ≡ p → lane_at t k ≡ lane_at s k
    lane k at = subst (λ (n : ℕ). lane_at t n ≡ lane_at s n) (sym at) same

    runs : (k : ℕ) (r : Running) → k ≡ p → Runs (lane_at t k) r → Runs (lane_at s k) r
    runs k r at h = subst (λ (l : Lane). Runs l r) (lane k at) h

    over : (whole : Bool) (b k : ℕ) (r : Running) → k ≡ p → Runs (lane_at t k) r → MayBeOver w t whole b r → MayBeOver w s whole b r
    over whole b k r at there may =
        let f : Waiting = may.flush in
        let awaits : Awaits s p f = (r, subst (λ (n : ℕ). Runs (lane_at s n) r) at (runs k r at there), may.waits) in
        let of_kind : IsHeldBack w s whole f.target f.mark → IsHeldBack w t whole f.target f.mark =
        subst (λ (kind : Bool). IsHeldBack w s kind f.target f.mark → IsHeldBack w t kind f.target f.mark) may.kind (keeps f awaits) in
        let of_target : IsHeldBack w s whole b f.mark → IsHeldBack w t whole b f.mark = subst (λ (i : ℕ). IsHeldBack w s whole i f.mark → IsHeldBack w t whole i f.mark) may.target of_kind in
        record { flush = f; waits = may.waits; kind = may.kind; target = may.target; done = λ h. may.done (of_target h) }

    moves : HasNoDeclaredStep w t p
    moves (Queue i) is = is.of_lane
    moves (Cancel i) is = is.of_lane
    moves (Start k i) is = still (Start k i) (record { of_lane = is.of_lane; lawful = subst (λ (l : Lane). MayStartFirst l i) (lane k is.of_lane) is.lawful; forced = is.forced; in_order = tt })
    moves (Wait k b) is =
        let l = is.lawful in
        let o = is.in_order in
        still (Wait k b) (record { of_lane = is.of_lane; lawful = (l.0, runs k l.0 is.of_lane l.1, l.2); forced = tt; in_order = (o.0, runs k o.0 is.of_lane o.1, o.2) })
    moves (Over k b) is =
        let l = is.lawful in
        still (Over k b) (record { of_lane = is.of_lane; lawful = (l.0, runs k l.0 is.of_lane l.1, over false b k l.0 is.of_lane l.1 l.2); forced = tt; in_order = tt })
    moves (WaitAll k b) is =
        let l = is.lawful in
        let o = is.in_order in
        still (WaitAll k b) (record { of_lane = is.of_lane; lawful = (l.0, runs k l.0 is.of_lane l.1, l.2); forced = tt; in_order = (o.0, runs k o.0 is.of_lane o.1, o.2) })
    moves (OverAll k b) is =
        let l = is.lawful in
        still (OverAll k b) (record { of_lane = is.of_lane; lawful = (l.0, runs k l.0 is.of_lane l.1, over true b k l.0 is.of_lane l.1 l.2); forced = tt; in_order = tt })
    moves (Finish k i) is =
        let l = is.lawful in
        let o = is.in_order in
        still (Finish k i) (record { of_lane = is.of_lane; lawful = (l.0, runs k l.0 is.of_lane l.1, l.2); forced = tt; in_order = (o.0, runs k o.0 is.of_lane o.1, o.2) })
    moves (Help k c deed) is = is.of_lane

-- a step finishes an item, or nothing
cases_finish : (q : ℕ) (step : Step) → IsStepOfLane q step → ((j : ℕ) × (step ≡ Finish q j)) ⊎ ((j : ℕ) → ¬ (step ≡ Finish q j))
cases_finish q (Queue i) is = absurd is
cases_finish q (Cancel i) is = absurd is
cases_finish q (Start k i) is = inr (λ j never. cc)
cases_finish q (Wait k b) is = inr (λ j never. cc)
cases_finish q (Over k b) is = inr (λ j never. cc)
cases_finish q (WaitAll k b) is = inr (λ j never. cc)
cases_finish q (OverAll k b) is = inr (λ j never. cc)
cases_finish q (Finish k i) is = inl (i, ap (λ (n : ℕ). Finish n i) is)
cases_finish q (Help k c deed) is = absurd is

-- after a step of lane q another lane that couldn't move still can't, if nothing is finished, or what the other lane waits for is
-- held back by an item that isn't finished
pub HasNoDeclaredStep-other : (w : Wiring) (s : State) (q : ℕ) (step : Step) → IsSoundState w s → IsDeclaredStep w s q step → (p : ℕ) → p ≢ q
    → ((j : ℕ) → step ≡ Finish q j → (f : Waiting) → Awaits s p f → (i : ℕ) × IsHolder w s f.whole f.target f.mark i × LeavesItem q step i)
    → HasNoDeclaredStep w s p → HasNoDeclaredStep w (effect w s step) p
HasNoDeclaredStep-other w s q step sound is p other held still = HasNoDeclaredStep-same w s (effect w s step) p (lane_at-other w s q step is p other) keeps still
  where
    keeps : (f : Waiting) → Awaits s p f → IsHeldBack w s f.whole f.target f.mark → IsHeldBack w (effect w s step) f.whole f.target f.mark
    keeps f awaits before = elim (cases_finish q step is.of_lane) [
      | inl finish ↦ (
          let by = held finish.0 finish.1 f awaits in
          held_back-holder w (effect w s step) f.whole f.target f.mark by.0 (IsHolder-step w s q step sound is f.whole f.target f.mark by.0 by.2 by.1)
          )
      | inr nothing ↦ held_back-step w s q step sound is nothing f.whole f.target f.mark before
    ]
