-- Machines as their fields hold them, after one lane has changed.
use Rattle.std.proofs.Common.{◌≡◌, ◌≢◌, ℕ, zero, suc, ◌==◌, ◌+◌, ◌<◌, ◌≤◌, ◌⊎◌, ◌^◌, List, [], ◌∷◌, map, set, refl, sym, subst, ◌∙◌, ap, arith, inl, inr, Bool, true, false}
use Rattle.std.specs.Prelude.{Option, Some, None, slice_get}
use Rattle.std.specs.List.{count_by}
use Rattle.std.proofs.lemmas.List.{get_or-map, map-set, length-set}
use Rattle.std.proofs.lemmas.Option.{slice_get_within, get_or_from_slice_get}
use Rattle.wq_items.specs.declared.target.Target.{Target}
use Rattle.wq_core.specs.declared.step.Step.{Step}
use Rattle.wq_core.specs.declared.step.Step.TheVariants.{Queue, Cancel}
use Rattle.wq_core.specs.declared.step.HelpStep.{HelpStep}
use Rattle.wq_core.specs.declared.step.HelpStep.TheVariants.{Start as DoStart, Wait as DoWait, WaitAll as DoWaitAll, Over as DoOver, OverAll as DoOverAll, Finish as DoFinish}
use Rattle.wq_core.specs.Wiring.{helpers_of, lane_of}
use Rattle.wq_core.specs.State.{Lane, State, idle_lane, lane_at, with_lane}
use Rattle.wq_core.specs.Rules.{Lawful, done_by, effect, with_queued, with_cancelled, with_started, with_wait, with_over, with_finished, step_in, wait_deed, over_deed}
use Rattle.wq_core.specs.Held.{HeldLane, Machine, machine_of, HasRoom, IsNumbering, IsRising, IsHeld, IsMachine, IsNumberOf, UsesUp, machine_after, IsDone}
use Rattle.wq_core.proofs.Numbered.{IsNumbering-effect, numbers_after, numbers_after_deed}
use Rattle.wq_core.proofs.Rising.{IsRising-effect}
use Rattle.wq_core.proofs.Sound.{IsSoundState-effect}
use Rattle.wq_core.proofs.WaitSteps.{step_in-effect, step_in-number_left}
use Rattle.wq_core.proofs.Contexts.{step_in-gives}
use Rattle.wq_core.proofs.Wirings.{lane_of-within}

-- each lane is as it was, or the one that was put there
set_cases : (lanes : List HeldLane) (q : ℕ) (new : HeldLane) (p : ℕ) (h : HeldLane) → slice_get (set lanes q new) p ≡ Some h → (slice_get lanes p ≡ Some h) ⊎ ((p ≡ q) × (new ≡ h))
set_cases [] q new p h is = inl is
set_cases (l ∷ ls) zero new zero h is = inr (refl, cc)
set_cases (l ∷ ls) zero new (suc p) h is = inl is
set_cases (l ∷ ls) (suc q) new zero h is = inl is
set_cases (l ∷ ls) (suc q) new (suc p) h is = elim (set_cases ls q new p h is) [
  | inl same ↦ inl same
  | inr there ↦ inr (ap suc there.0, there.1)
]

-- one kind of lane in place of another of the same kind
set_same : (lanes : List HeldLane) (q : ℕ) (old new : HeldLane) → slice_get lanes q ≡ Some old → new.ordered ≡ old.ordered
    → map (λ (h : HeldLane). h.ordered) (set lanes q new) ≡ map (λ (h : HeldLane). h.ordered) lanes
set_same [] q old new was same = refl
set_same (l ∷ ls) zero old new was same = let is : l ≡ old = cc in ap (λ (b : Bool). b ∷ map (λ (h : HeldLane). h.ordered) ls) (same ∙ ap (λ (h : HeldLane). h.ordered) (sym is))
set_same (l ∷ ls) (suc q) old new was same = ap (λ (bs : List Bool). l.ordered ∷ bs) (set_same ls q old new was same)

module _ (waits : List (List Target)) (lane_of_item : List ℕ) (bare : List Bool) (helpers : ℕ) (numbers : List (Option ℕ)) (lanes : List HeldLane) (next : ℕ) where
  -- the machine that the fields hold
  abbrev held_machine : Machine
  held_machine = machine_of waits lane_of_item bare helpers lanes next

  pub held_lane : (q : ℕ) (old : HeldLane) → slice_get lanes q ≡ Some old → lane_at held_machine.state q ≡ old.lane
  held_lane q old was =
      get_or-map (λ (h : HeldLane). h.lane) lanes q old idle_lane (slice_get_within lanes q old was) ∙ ap (λ (h : HeldLane). h.lane) (get_or_from_slice_get lanes q old old was)

  -- one lane and the next number may change in the fields
  machine_of-set : (q : ℕ) (old new : HeldLane) (later : ℕ) → slice_get lanes q ≡ Some old → new.ordered ≡ old.ordered
      → machine_of waits lane_of_item bare helpers (set lanes q new) later ≡ record { wiring = held_machine.wiring; state = record { next = later; lanes = set held_machine.state.lanes q new.lane } }
  machine_of-set q old new later was same =
      let count = length-set lanes q new in
      let orders = set_same lanes q old new was same in
      let state = map-set (λ (h : HeldLane). h.lane) lanes q new in
      λ t. record {
        wiring = record { waits = waits; lane_of_item = lane_of_item; lanes = count t; ordered = orders t; bare = bare; helpers = helpers };
        state = record { next = later; lanes = state t };
      }

  -- what holds of each lane and its number of entries or of helpers holds still
  each_kept : (P : ℕ → HeldLane → Type 0) (q : ℕ) (old new : HeldLane) → slice_get lanes q ≡ Some old → (P q old → P q new) → ((p : ℕ) (h : HeldLane) → slice_get lanes p ≡ Some h → P p h)
      → (p : ℕ) (h : HeldLane) → slice_get (set lanes q new) p ≡ Some h → P p h
  each_kept P q old new was keeps each p h is = elim (set_cases lanes q new p h is) [
    | inl same ↦ each p h same
    | inr there ↦ subst (λ (n : ℕ). P n h) (sym there.0) (subst (λ (g : HeldLane). P q g) there.1 (keeps (each q old was)))
  ]

  -- a lawful step whose effect is such a change
  changed : (m : Machine) (step : Step) (n q : ℕ) (old new : HeldLane) (later : ℕ) → IsHeld waits lane_of_item bare helpers numbers lanes next → held_machine ≡ m → IsNumberOf m step (Some n) → ¬ UsesUp m.state step
      → slice_get lanes q ≡ Some old → new.room ≡ old.room → new.ordered ≡ old.ordered → new.helpers ≡ old.helpers → later < 2 ^ 32
      → record { next = later; lanes = set held_machine.state.lanes q new.lane } ≡ effect held_machine.wiring held_machine.state step
      → IsHeld waits lane_of_item bare helpers (numbers_after held_machine.state step numbers) (set lanes q new) later × IsDone m step n (machine_of waits lane_of_item bare helpers (set lanes q new) later)
  changed m step n q old new later held view number left was room ordered has small made =
      let lawful : Lawful held_machine.wiring held_machine.state step = subst (λ (k : Machine). Lawful k.wiring k.state step) (sym view) number.0 in
      let is : machine_of waits lane_of_item bare helpers (set lanes q new) later ≡ machine_after held_machine step = machine_of-set q old new later was ordered ∙ ap (λ (s : State). record { wiring = held_machine.wiring; state = s }) made in
      let before = held.machine in
      let after : IsMachine (machine_after held_machine step) = record {
        wiring = before.wiring;
        state = IsSoundState-effect held_machine.wiring held_machine.state step before.state lawful;
        few_items = before.few_items;
        few_flushes = before.few_flushes;
        few_lanes = before.few_lanes;
        few_helpers = before.few_helpers;
        numbers = subst (λ (s : State). s.next < 2 ^ 32) made small;
      } in
      let numbered : IsNumbering held_machine.wiring (effect held_machine.wiring held_machine.state step) (numbers_after held_machine.state step numbers) =
      IsNumbering-effect held_machine.wiring held_machine.state step numbers before.state (lane_of-within held_machine.wiring before.wiring) lawful held.numbers in
      let rising : (p : ℕ) → IsRising (lane_at (effect held_machine.wiring held_machine.state step) p).pending = IsRising-effect held_machine.wiring held_machine.state step before.state held.rising in
      let helped : (p : ℕ) (h : HeldLane) → slice_get (set lanes q new) p ≡ Some h → h.helpers ≡ helpers_of held_machine.wiring p =
      each_kept (λ (p : ℕ) (h : HeldLane). h.helpers ≡ helpers_of held_machine.wiring p) q old new was (λ e. has ∙ e) held.helped in (
        record {
          machine = subst IsMachine (sym is) after;
          room = each_kept (λ (p : ℕ) (h : HeldLane). HasRoom lane_of_item p h) q old new was (λ enough. subst (λ (r : ℕ). count_by (λ l. l == q) lane_of_item ≤ r) (sym room) enough) held.room;
          helped = subst (λ (k : Machine). (p : ℕ) (h : HeldLane) → slice_get (set lanes q new) p ≡ Some h → h.helpers ≡ helpers_of k.wiring p) (sym is) helped;
          numbers = subst (λ (k : Machine). IsNumbering k.wiring k.state (numbers_after held_machine.state step numbers)) (sym is) numbered;
          rising = subst (λ (k : Machine). (p : ℕ) → IsRising (lane_at k.state p).pending) (sym is) rising;
        },
        record { lawful = number.0; number_left = left; gives = number.1; after = is ∙ ap (λ (k : Machine). machine_after k step) view },
      )

  numbers_after-step_in : (q c : ℕ) (deed : HelpStep) → numbers_after held_machine.state (step_in q c deed) numbers ≡ numbers_after_deed deed numbers
  numbers_after-step_in q zero (DoStart i) = refl
  numbers_after-step_in q zero (DoWait b) = refl
  numbers_after-step_in q zero (DoWaitAll b) = refl
  numbers_after-step_in q zero (DoOver b) = refl
  numbers_after-step_in q zero (DoOverAll b) = refl
  numbers_after-step_in q zero (DoFinish i) = refl
  numbers_after-step_in q (suc h) deed = refl

  module _ (m : Machine) (n : ℕ) (old new : HeldLane) (held : IsHeld waits lane_of_item bare helpers numbers lanes next) (view : held_machine ≡ m) (room : new.room ≡ old.room) (ordered : new.ordered ≡ old.ordered) (has : new.helpers ≡ old.helpers) where
    -- the state with lane q as f makes it
    put : (q : ℕ) (f : Lane → Lane) → slice_get lanes q ≡ Some old → new.lane ≡ f old.lane → record { next = next; lanes = set held_machine.state.lanes q new.lane } ≡ with_lane held_machine.state q (f (lane_at held_machine.state q))
    put q f was is = ap (λ (l : Lane). with_lane held_machine.state q l) (is ∙ ap f (sym (held_lane q old was)))

    -- what a context does
    done : (q c : ℕ) (deed : HelpStep) → IsNumberOf m (step_in q c deed) (Some n) → slice_get lanes q ≡ Some old
        → record { next = next; lanes = set held_machine.state.lanes q new.lane } ≡ done_by held_machine.state q c deed
        → IsHeld waits lane_of_item bare helpers (numbers_after_deed deed numbers) (set lanes q new) next × IsDone m (step_in q c deed) n (machine_of waits lane_of_item bare helpers (set lanes q new) next)
    done q c deed number was made =
        let step : Step = step_in q c deed in
        let now = changed m step n q old new next held view number (step_in-number_left m.state q c deed) was room ordered has held.machine.numbers (made ∙ sym (step_in-effect held_machine.wiring held_machine.state q c deed)) in
        (subst (λ (l : List (Option ℕ)). IsHeld waits lane_of_item bare helpers l (set lanes q new) next) (numbers_after-step_in q c deed) now.0, now.1)

    pub finished : (q c i : ℕ) → IsNumberOf m (step_in q c (DoFinish i)) (Some n) → slice_get lanes q ≡ Some old → new.lane ≡ with_finished c old.lane
        → IsHeld waits lane_of_item bare helpers numbers (set lanes q new) next × IsDone m (step_in q c (DoFinish i)) n (machine_of waits lane_of_item bare helpers (set lanes q new) next)
    finished q c i number was is = done q c (DoFinish i) number was (put q (with_finished c) was is)

    pub over : (q c : ℕ) (whole : Bool) (b : ℕ) → IsNumberOf m (step_in q c (over_deed whole b)) (Some n) → slice_get lanes q ≡ Some old → new.lane ≡ with_over c old.lane
        → IsHeld waits lane_of_item bare helpers numbers (set lanes q new) next × IsDone m (step_in q c (over_deed whole b)) n (machine_of waits lane_of_item bare helpers (set lanes q new) next)
    over q c false b number was is = done q c (DoOver b) number was (put q (with_over c) was is)
    over q c true b number was is = done q c (DoOverAll b) number was (put q (with_over c) was is)

    -- the lane is the one that the wait makes, by the mark that it gives
    marked : (q c : ℕ) (whole : Bool) (b : ℕ) → slice_get lanes q ≡ Some old → n ≡ m.state.next → new.lane ≡ with_wait c whole b n old.lane
        → record { next = next; lanes = set held_machine.state.lanes q new.lane } ≡ with_lane held_machine.state q (with_wait c whole b next (lane_at held_machine.state q))
    marked q c whole b was given is =
        let mark : n ≡ next = given ∙ ap (λ (k : Machine). k.state.next) (sym view) in
        put q (with_wait c whole b next) was (is ∙ ap (λ (k : ℕ). with_wait c whole b k old.lane) mark)

    pub waited : (q c : ℕ) (whole : Bool) (b : ℕ) → IsNumberOf m (step_in q c (wait_deed whole b)) (Some n) → slice_get lanes q ≡ Some old → new.lane ≡ with_wait c whole b n old.lane
        → IsHeld waits lane_of_item bare helpers numbers (set lanes q new) next × IsDone m (step_in q c (wait_deed whole b)) n (machine_of waits lane_of_item bare helpers (set lanes q new) next)
    waited q c false b number was is = done q c (DoWait b) number was (marked q c false b was (step_in-gives m.state q c (DoWait b) n number.1) is)
    waited q c true b number was is = done q c (DoWaitAll b) number was (marked q c true b was (step_in-gives m.state q c (DoWaitAll b) n number.1) is)

    pub started : (q c i : ℕ) → IsNumberOf m (step_in q c (DoStart i)) (Some n) → slice_get lanes q ≡ Some old → new.lane ≡ with_started c i old.lane
        → IsHeld waits lane_of_item bare helpers (set numbers i None) (set lanes q new) next × IsDone m (step_in q c (DoStart i)) n (machine_of waits lane_of_item bare helpers (set lanes q new) next)
    started q c i number was is = done q c (DoStart i) number was (put q (with_started c i) was is)

    pub cancelled : (q i : ℕ) → q ≡ lane_of m.wiring i → IsNumberOf m (Cancel i) (Some n) → slice_get lanes q ≡ Some old → new.lane ≡ with_cancelled i old.lane
        → IsHeld waits lane_of_item bare helpers (set numbers i None) (set lanes q new) next × IsDone m (Cancel i) n (machine_of waits lane_of_item bare helpers (set lanes q new) next)
    cancelled q i own number was is =
        let at : q ≡ lane_of held_machine.wiring i = own ∙ ap (λ (k : Machine). lane_of k.wiring i) (sym view) in
        changed m (Cancel i) n q old new next held view number (λ u. u) was room ordered has held.machine.numbers (
        put q (with_cancelled i) was is ∙ ap (λ (p : ℕ). with_lane held_machine.state p (with_cancelled i (lane_at held_machine.state p))) at
        )

    pub queued : (q i : ℕ) → q ≡ lane_of m.wiring i → IsNumberOf m (Queue i) (Some n) → n ≢ 4294967295 → slice_get lanes q ≡ Some old → new.lane ≡ with_queued (record { number = n; item = i }) old.lane
        → IsHeld waits lane_of_item bare helpers (set numbers i (Some n)) (set lanes q new) (next + 1) × IsDone m (Queue i) n (machine_of waits lane_of_item bare helpers (set lanes q new) (next + 1))
    queued q i own number left was is =
        let at : q ≡ lane_of held_machine.wiring i = own ∙ ap (λ (k : Machine). lane_of k.wiring i) (sym view) in
        let given : n ≡ next = number.1 ∙ ap (λ (k : Machine). k.state.next) (sym view) in
        let lane : Lane → Lane = with_queued (record { number = next; item = i }) in
        let now = changed m (Queue i) n q old new (next + 1) held view number (λ u. left (number.1 ∙ u)) was room ordered has (omega (arith, held.machine.numbers, given, left)) (
        ap (λ (l : Lane). record { next = next + 1; lanes = set held_machine.state.lanes q l }) (is ∙ ap (λ (k : ℕ). with_queued (record { number = k; item = i }) old.lane) given ∙ ap lane (sym (held_lane q old was)))
        ∙ ap (λ (p : ℕ). record { next = next + 1; lanes = set held_machine.state.lanes p (lane (lane_at held_machine.state p)) }) at
        ) in
        (subst (λ (k : ℕ). IsHeld waits lane_of_item bare helpers (set numbers i (Some k)) (set lanes q new) (next + 1)) (sym given) now.0, now.1)
