-- A played run that queues the items of a knot first ends stuck.
use Rattle.std.proofs.Common.{◌≡◌, ◌≢◌, ℕ, zero, suc, ◌<◌, ◌⊎◌, inl, inr, Bool, true, false, not, eqb, List, [], ◌∷◌, ◌++◌, length, map, get_or, Some, None, refl, sym, ap, subst, ◌∙◌, arith}
use Rattle.std.specs.Prelude.{AllPairs, Contains, slice_get, find}
use Rattle.std.specs.List.{All}
use Rattle.std.proofs.lemmas.Bool.{cases_lt, cond-true, eq-eqb, false_from_ne_true}
use Rattle.std.proofs.lemmas.List.{get_or_past, length-replicate}
use Rattle.std.proofs.lemmas.List.Elements.{All-append, All-contains, All-weaker, Contains-get_or}
use Rattle.std.proofs.lemmas.List.Sums.{sum_by-append}
use Rattle.std.proofs.lemmas.Option.{slice_get_read, slice_get_within, get_or_from_slice_get}
use Rattle.wq_items.specs.declared.target.Target.{Target}
use Rattle.wq_items.proofs.Tables.{targets_of-below}
use Rattle.wq_items.proofs.Lists.{Contains-filtered}
use Rattle.wq_core.specs.declared.entry.Entry.{Entry}
use Rattle.wq_core.specs.declared.step.Step.{Step}
use Rattle.wq_core.specs.Wiring.{Wiring, IsWiring, HasRescuer, items, lane_of, declared_by}
use Rattle.wq_core.specs.State.{Lane, State, idle_lane, lane_at, empty_state, run_by, is_running, HasPending, IsUnfinishedOn}
use Rattle.wq_core.specs.Rules.{MayStartFirst, effect}
use Rattle.wq_core.specs.Runs.{after, end_of, IsRun, IsCancel, IsHelp, HasNoHelp, IsOnce, queues}
use Rattle.wq_core.specs.Held.{IsSoundState}
use Rattle.wq_core.specs.Deadlock.{IsStuck, DeadlocksBy, Deadlocks}
use Rattle.wq_core.specs.Played.{IsPlayedFrom, queue_order}
use Rattle.wq_core.specs.Knot.{HasLane, WaitsAmong, IsKnot}
use Rattle.wq_core.proofs.Contexts.{is_running-some}
use Rattle.wq_core.proofs.Helpers.{OnlyRescuersRun, only_rescuers-end_of, deadlocks-alike}
use Rattle.wq_core.proofs.Knots.{AreMembers, AreHeldUp, AreHeldUp-effect}
use Rattle.wq_core.proofs.LaneLemmas.{lane_at-empty_state, idle_lane-unfinished}
use Rattle.wq_core.proofs.Plays.{after-append, IsRunFrom-append, AsDeclaredFrom-append, AsDeclaredFrom-queued, no_cancel-queued, no_help-queued, IsRunFrom-played, AsDeclaredFrom-played, no_cancel-played, no_help-played, count_by-queues_played, no_step-played}
use Rattle.wq_core.proofs.Playing.{IsPlayedFrom-exists}
use Rattle.wq_core.proofs.Queued.{one_if, pending_items, on_lane, pending_items-all_queued, running-all_queued, IsRunFrom-queued, count_by-queues_one}
use Rattle.wq_core.proofs.QueueOrder.{others_in_order, in_order, All-in_order, AllPairs-in_order, Contains-in_order, first_on_lane}
use Rattle.wq_core.proofs.Sound.{IsSoundState-effect, IsSoundState-end_of, IsSoundState-after}

-- ---- entries by their items

entry_of : (es : List Entry) (i : ℕ) → Contains (map (λ (e : Entry). e.item) es) i → (e : Entry) × Contains es e × (e.item ≡ i)
entry_of [] i (k, lt, at) = absurd (omega arith)
entry_of (e ∷ es) i (zero, lt, at) = (e, (0, omega arith, refl), at)
entry_of (e ∷ es) i (suc k, lt, at) = let later = entry_of es i (k, omega arith, at) in (later.0, (suc later.1.0, omega arith, later.1.2), later.2)

first_entry : (es : List Entry) (i : ℕ) → slice_get (map (λ (e : Entry). e.item) es) 0 ≡ Some i → (e : Entry) × (slice_get es 0 ≡ Some e) × (e.item ≡ i)
first_entry [] i is = absurd cc
first_entry (e ∷ es) i is = (e, refl, cc)

-- the first entry is the first whose item isn't running, if it isn't
first_next : (es : List Entry) (p : ℕ → Bool) (e : Entry) → slice_get es 0 ≡ Some e → p e.item ≡ false → find (λ (f : Entry). not (p f.item)) es ≡ Some e
first_next [] p e is idle = absurd cc
first_next (x ∷ es) p e is idle =
    let same : x ≡ e = cc in
    let passes : not (p x.item) ≡ true = ap not (ap (λ (f : Entry). p f.item) same ∙ idle) in
    cond-true (not (p x.item)) (Some x) (find (λ (f : Entry). not (p f.item)) es) passes ∙ ap Some same

no_pending : (w : Wiring) (i : ℕ) → ¬ HasPending (empty_state w) i
no_pending w i h = idle_lane-unfinished h.entry (subst (λ (l : Lane). IsUnfinishedOn l h.entry) (lane_at-empty_state w h.lane) (inl h.pending))

-- an item that waits among these exists
item_from_waits : (w : Wiring) (is : List ℕ) (i : ℕ) → WaitsAmong w is i → i < items w
item_from_waits w is i waits = elim (cases_lt i (items w)) [
  | inl within ↦ within
  | inr past ↦ (
      let none : length (declared_by w i) ≡ 0 = ap (λ (ts : List Target). length ts) (get_or_past w.waits i [] past) in
      let some : waits.0 < length (declared_by w i) = waits.2 in
      absurd (omega arith)
      )
]

module _ (w : Wiring) (knot : List ℕ) (wiring : IsWiring w) (is : IsKnot w knot) where
  -- ---- the items of the knot, and its order

  waits_among : (i : ℕ) → Contains knot i → WaitsAmong w knot i
  waits_among i there = All-contains (λ j. WaitsAmong w knot j) knot i is.held there

  items_of_knot : All (λ i. i < items w) knot
  items_of_knot = All-weaker (λ i. WaitsAmong w knot i) (λ i. i < items w) (item_from_waits w knot) knot is.held

  differ : AllPairs (λ i j. i ≢ j) (in_order knot (items w))
  differ = AllPairs-in_order knot (items w) (λ i j d lt within same. is.apart i j d lt within (ap (lane_of w) same))

  all_items : All (λ i. i < items w) (in_order knot (items w))
  all_items = All-in_order knot (items w) items_of_knot

  -- a member of the knot waits, at this place, for this target on the lane of a member or on a bare lane
  abbrev Member : ℕ → ℕ → Target → Type 0
  Member m place t = Contains knot m × (slice_get (declared_by w m) place ≡ Some t) × (HasLane w knot (lane_of w t.item) ⊎ (¬ HasRescuer w (lane_of w t.item)))

  Member-from : (m : ℕ) → Contains knot m → (place : ℕ) × (t : Target) × Member m place t
  Member-from m there =
      let waits = waits_among m there in
      (waits.0, waits.1, (there, slice_get_read (declared_by w m) (length (declared_by w m)) waits.0 waits.1 refl waits.2 (sym waits.3), waits.4))

  members : AreMembers w Member
  members = record {
    declares = λ m place t member. member.1;
    among = λ m place t member. elim member.2 [
      | inl has ↦ inl (let other = Member-from has.1 (has.0, has.2, has.3) in (has.1, other.0, other.1, other.2, sym has.4))
      | inr bare ↦ inr bare
    ];
    below = λ m place t member.
        let targets : List Target = declared_by w m in
        let each = targets_of-below (items w) w.waits m wiring.targets_are_items place t (slice_get_within targets place t member.1) in
        subst (λ (u : Target). u.item < items w) (get_or_from_slice_get targets place t t member.1) each;
  }

  -- ---- after the queueings

  abbrev start : State
  start = end_of w (queue_order w knot)

  pub IsRun-queue_order : IsRun w (queue_order w knot)
  IsRun-queue_order = IsRunFrom-queued w (in_order knot (items w)) (empty_state w) all_items differ (λ i there. no_pending w i)

  start_is_sound : IsSoundState w start
  start_is_sound = IsSoundState-end_of w (queue_order w knot) IsRun-queue_order

  lanes_exist : All (λ i. lane_of w i < length (empty_state w).lanes) (in_order knot (items w))
  lanes_exist = All-weaker (λ i. i < items w) (λ i. lane_of w i < length (empty_state w).lanes) (λ i lt.
      let size : length (empty_state w).lanes ≡ w.lanes = length-replicate w.lanes idle_lane in
      let within : lane_of w i < w.lanes = wiring.within i 0 (omega (arith, wiring.one_lane_each, lt)) in
      omega arith
      ) (in_order knot (items w)) all_items

  -- what is pending on a lane is its items, in order
  pending_at_start : (q : ℕ) → pending_items start q ≡ on_lane w q (in_order knot (items w))
  pending_at_start q =
      pending_items-all_queued w (in_order knot (items w)) (empty_state w) q lanes_exist
      ∙ ap (λ (l : Lane). map (λ (e : Entry). e.item) l.pending ++ on_lane w q (in_order knot (items w))) (lane_at-empty_state w q)

  none_runs : (q : ℕ) → (lane_at start q).running ≡ None
  none_runs q = running-all_queued w (in_order knot (items w)) (empty_state w) q ∙ ap (λ (l : Lane). l.running) (lane_at-empty_state w q)

  pending_entry_at_start : (j q : ℕ) → j < items w → lane_of w j ≡ q → (e : Entry) × Contains (lane_at start q).pending e × (e.item ≡ j) × (e.number < start.next)
  pending_entry_at_start j q lt same =
      let all : Contains (in_order knot (items w)) j = Contains-in_order knot (items w) j lt in
      let there : Contains (on_lane w q (in_order knot (items w))) j = Contains-filtered (λ i. eqb (lane_of w i) q) (in_order knot (items w)) j (eq-eqb (lane_of w j) q same) all in
      let found = entry_of (lane_at start q).pending j (subst (λ (js : List ℕ). Contains js j) (sym (pending_at_start q)) there) in
      (found.0, found.1, found.2, start_is_sound.given q found.0 (inl found.1))

  -- no context runs anything, so the first pending entry is the one that is started next
  only_rescuers : OnlyRescuersRun start
  only_rescuers = only_rescuers-end_of w (queue_order w knot) (no_help-queued (in_order knot (items w)))

  nothing_is_running : (q i : ℕ) → is_running (lane_at start q) i ≡ false
  nothing_is_running q i = false_from_ne_true (is_running (lane_at start q) i) (λ runs.
      let some = is_running-some (lane_at start q) i runs in
      let rescuer : (lane_at start q).running ≡ Some some.1 = subst (λ c. run_by (lane_at start q) c ≡ Some some.1) (only_rescuers q some.0 some.1 some.2) some.2 in
      let never : None ≡ Some some.1 = sym (none_runs q) ∙ rescuer in
      cc
      )

  starts_next : (m : ℕ) → Contains knot m → MayStartFirst (lane_at start (lane_of w m)) m
  starts_next m there =
      let first = first_on_lane w knot (others_in_order knot (items w)) m is.apart there in
      let found = first_entry (lane_at start (lane_of w m)).pending m (ap (λ (js : List ℕ). slice_get js 0) (pending_at_start (lane_of w m)) ∙ first) in
      let next = first_next (lane_at start (lane_of w m)).pending (is_running (lane_at start (lane_of w m))) found.0 found.1 (nothing_is_running (lane_of w m) found.0.item) in
      record { idle = none_runs (lane_of w m); entry = found.0; first = next; of_item = found.2 }

  held_at_start : AreHeldUp w Member start
  held_at_start = record {
    up = λ m place t member. record {
      unfinished = λ j lt same. let e = pending_entry_at_start j (lane_of w m) lt same in (e.0, inl e.1, e.2, e.3);
      turn = inl (starts_next m member.0);
    };
    asleep = λ q bare. record { idle = none_runs q; pending = λ j lt same. pending_entry_at_start j q lt same };
  }

  -- ---- while it is played

  held_on : (s : State) (more : List Step) → IsSoundState w s → AreHeldUp w Member s → IsPlayedFrom w s more → AreHeldUp w Member (after w s more)
  held_on s [] sound held played = held
  held_on s (step ∷ more) sound held played =
      let next : IsSoundState w (effect w s step) = IsSoundState-effect w s step sound played.0.1.lawful in
      held_on (effect w s step) more next (AreHeldUp-effect w Member members s played.0.0 step sound held played.0.1) played.1

  -- ---- the run

  module _ (more : List Step) (played : IsPlayedFrom w start more) where
    once : IsOnce w (queue_order w knot ++ more)
    once = record {
      queued = λ i lt.
          let test : Step → ℕ = λ (step : Step). one_if (queues i step) in
          let both = sum_by-append test (queue_order w knot) more in
          let one = count_by-queues_one i (in_order knot (items w)) differ (Contains-in_order knot (items w) i lt) in
          let none = count_by-queues_played w start more i played in
          omega (arith, both, one, none);
      uncancelled =
          All-append (λ (step : Step). ¬ IsCancel step) (queue_order w knot) more (no_cancel-queued (in_order knot (items w))) (no_cancel-played w start more played);
    }

    sound_at_end : IsSoundState w (after w start more)
    sound_at_end = IsSoundState-after w start more start_is_sound (IsRunFrom-played w start more played)

    none_help : HasNoHelp (queue_order w knot ++ more)
    none_help = All-append (λ (step : Step). ¬ IsHelp step) (queue_order w knot) more (no_help-queued (in_order knot (items w))) (no_help-played w start more played)

    only_at_end : OnlyRescuersRun (after w start more)
    only_at_end = subst (λ (s : State). OnlyRescuersRun s) (after-append w (empty_state w) (queue_order w knot) more) (only_rescuers-end_of w (queue_order w knot ++ more) none_help)

    stuck : IsStuck w (after w start more)
    stuck =
        let m : ℕ = get_or knot 0 0 in
        let member = Member-from m (Contains-get_or knot 0 0 is.some) in
        let held = (held_on start more start_is_sound held_at_start played).up m member.0 member.1 member.2 in
        let left = held.unfinished m (All-contains (λ i. i < items w) knot m items_of_knot member.2.0) refl in
        record {
          left = record { lane = lane_of w m; entry = left.0; unfinished = left.1 };
          rescuer = All-contains (λ i. HasRescuer w (lane_of w i)) knot m is.rescued member.2.0;
          no_step = no_step-played w start more played sound_at_end only_at_end;
        }

    DeadlocksBy-here : DeadlocksBy w (queue_order w knot ++ more)
    DeadlocksBy-here = record {
      run = IsRunFrom-append w (empty_state w) (queue_order w knot) more IsRun-queue_order (IsRunFrom-played w start more played);
      once = once;
      as_declared = AsDeclaredFrom-append w (empty_state w) (queue_order w knot) more (AsDeclaredFrom-queued w (in_order knot (items w)) (empty_state w)) (AsDeclaredFrom-played w start more played);
      no_help = none_help;
      stuck = subst (λ (s : State). IsStuck w s) (sym (after-append w (empty_state w) (queue_order w knot) more)) stuck;
    }

pub DeadlocksBy-knot : (w : Wiring) (knot : List ℕ) (more : List Step) → IsWiring w → IsKnot w knot → IsPlayedFrom w (end_of w (queue_order w knot)) more
    → DeadlocksBy w (queue_order w knot ++ more)
DeadlocksBy-knot w knot more wiring is played = DeadlocksBy-here w knot wiring is more played

pub Deadlocks-knot : (w : Wiring) (knot : List ℕ) → IsWiring w → IsKnot w knot → Deadlocks w
Deadlocks-knot w knot wiring is =
    let play = IsPlayedFrom-exists w (end_of w (queue_order w knot)) (start_is_sound w knot wiring is) in
    let steps : List Step = queue_order w knot ++ play.0 in
    (steps, (λ n few. deadlocks-alike w w.helpers n steps (DeadlocksBy-knot w knot play.0 wiring is play.1)))
