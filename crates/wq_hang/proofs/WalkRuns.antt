-- The run of a walk that meets no lane twice is a run, and ends stuck.
use Rattle.std.proofs.Common.{◌≡◌, ◌≢◌, ℕ, zero, suc, ◌<◌, ◌⊎◌, inl, inr, Bool, true, false, not, eqb, List, [], ◌∷◌}
use Rattle.std.proofs.Common.{◌++◌, length, map, Some, None, refl, sym, ap, subst, ◌∙◌, arith}
use Rattle.std.specs.Prelude.{AllPairs, Contains, flat_map, find, option_map, slice_get}
use Rattle.std.specs.List.{All}
use Rattle.std.proofs.lemmas.Bool.{cond-true, eq-eqb, false_from_ne_true}
use Rattle.std.proofs.lemmas.List.{length-set, length-replicate}
use Rattle.std.proofs.lemmas.List.Elements.{All-nil, All-cons, All-weaker, All-contains}
use Rattle.std.proofs.lemmas.List.Kept.{AllPairs-cons}
use Rattle.wq_items.proofs.Lists.{Contains-later, Contains-filtered}
use Rattle.wq_core.specs.declared.entry.Entry.{Entry}
use Rattle.wq_core.specs.declared.entry.Waiting.{Waiting}
use Rattle.wq_core.specs.declared.entry.Running.{Running}
use Rattle.wq_core.specs.declared.step.Step.{Step}
use Rattle.wq_core.specs.declared.step.Step.TheVariants.{Queue, Cancel, Start, Wait, Over, WaitAll, OverAll, Finish}
use Rattle.wq_core.specs.declared.step.Step.TheVariants.{Help}
use Rattle.wq_core.specs.declared.step.HelpStep.TheVariants.{Start as DoStart, Wait as DoWait, WaitAll as DoWaitAll}
use Rattle.wq_core.specs.declared.step.HelpStep.TheVariants.{Over as DoOver, OverAll as DoOverAll, Finish as DoFinish}
use Rattle.wq_core.specs.Wiring.{Wiring, IsWiring, HasRescuer, items, lane_of, declared_by}
use Rattle.wq_core.specs.State.{Lane, State, idle_lane, lane_at, with_lane, empty_state, run_by, RunsIn, is_running}
use Rattle.wq_core.specs.State.{HasPending, IsUnfinishedOn}
use Rattle.wq_core.specs.Rules.{MayWait, MayBeOver, MayStartFirst, Lawful, effect, wait_of, begun, waiting_for}
use Rattle.wq_core.specs.Rules.{with_started, with_wait}
use Rattle.wq_core.specs.Runs.{after, end_of, IsRun, IsRunFrom, IsForcedStep}
use Rattle.wq_core.specs.Held.{IsSoundState}
use Rattle.wq_core.specs.Deadlock.{IsStuck}
use Rattle.wq_core.specs.MustGoOn.{IsStuckFor}
use Rattle.wq_core.proofs.Contexts.{is_running-some, found-pending, next-may, MayStart-first}
use Rattle.wq_core.proofs.Helpers.{OnlyRescuersRun, only_rescuers-end_of}
use Rattle.wq_core.proofs.Knots.{unfinished-started, unfinished-going_on}
use Rattle.wq_core.proofs.LaneLemmas.{lane_at-with_lane_same, lane_at-with_lane_other, lane_at-empty_state}
use Rattle.wq_core.proofs.LaneLemmas.{idle_lane-unfinished, Contains-filter, AllPairs-nil}
use Rattle.wq_core.proofs.Plays.{after-append, IsRunFrom-append, no_help-queued}
use Rattle.wq_core.proofs.Queued.{pending_items, on_lane, pending_items-all_queued, running-all_queued}
use Rattle.wq_core.proofs.Queued.{IsRunFrom-queued}
use Rattle.wq_core.proofs.QueueOrder.{first_on_lane}
use Rattle.wq_core.proofs.Sound.{IsSoundState-end_of}
use Rattle.wq_core.proofs.WaitSteps.{held_back-holder}
use Rattle.wq_core.proofs.Wirings.{lane_of-within}
use Rattle.wq_hang.specs.declared.hop.Hop.{Hop}
use Rattle.wq_hang.specs.Walk.{moves_of, run_of_walk}
use Rattle.wq_hang.proofs.Apart.{Avoids, Apart, In, cases_In, not_in, In-Contains, Contains-In, AllPairs-Apart}
use Rattle.wq_hang.proofs.Apart.{In-append_left}
use Rattle.wq_hang.proofs.LeastWalks.{lanes_from}

-- ---- lists

abbrev pub items_of : List Hop → List ℕ
items_of hops = map (λ (h : Hop). h.item) hops

-- what the run of a walk queues
abbrev pub queued : List Hop → List ℕ → List ℕ
queued hops beside = items_of hops ++ beside

pub lane_In : (w : Wiring) (hops : List Hop) (h : Hop) → Contains hops h → In (lane_of w h.item) (lanes_from w hops)
lane_In w [] h (k, lt, at) = omega arith
lane_In w (g ∷ hops) h (zero, lt, at) = inl (ap (λ (x : Hop). lane_of w x.item) (sym at))
lane_In w (g ∷ hops) h (suc k, lt, at) = inr (lane_In w hops h (k, omega arith, at))

pub In_lane : (w : Wiring) (hops : List Hop) (q : ℕ) → In q (lanes_from w hops)
    → (h : Hop) × Contains hops h × (lane_of w h.item ≡ q)
In_lane w [] q there = absurd there
In_lane w (g ∷ hops) q (inl same) = (g, (0, omega arith, refl), sym same)
In_lane w (g ∷ hops) q (inr later) = let found = In_lane w hops q later in (found.0, (suc found.1.0, omega (arith, found.1.1), found.1.2), found.2)

pub item_In : (hops : List Hop) (h : Hop) → Contains hops h → In h.item (items_of hops)
item_In [] h (k, lt, at) = omega arith
item_In (g ∷ hops) h (zero, lt, at) = inl (ap (λ (x : Hop). x.item) (sym at))
item_In (g ∷ hops) h (suc k, lt, at) = inr (item_In hops h (k, omega arith, at))

pub In_item : (hops : List Hop) (i : ℕ) → In i (items_of hops) → (h : Hop) × Contains hops h × (h.item ≡ i)
In_item [] i there = absurd there
In_item (g ∷ hops) i (inl same) = (g, (0, omega arith, refl), sym same)
In_item (g ∷ hops) i (inr later) = let found = In_item hops i later in (found.0, (suc found.1.0, omega (arith, found.1.1), found.1.2), found.2)

pub In-append : (i : ℕ) (xs ys : List ℕ) → In i (xs ++ ys) → In i xs ⊎ In i ys
In-append i [] ys there = inr there
In-append i (x ∷ xs) ys (inl same) = inl (inl same)
In-append i (x ∷ xs) ys (inr later) = elim (In-append i xs ys later) [ inl one ↦ inl (inr one) | inr other ↦ inr other ]

lanes_differ : (w : Wiring) (i : ℕ) (hops : List Hop) → Avoids (lane_of w i) (lanes_from w hops) → All (λ k. lane_of w i ≢ lane_of w k) (items_of hops)
lanes_differ w i [] avoids = All-nil (λ k. lane_of w i ≢ lane_of w k)
lanes_differ w i (h ∷ hops) avoids = All-cons (λ k. lane_of w i ≢ lane_of w k) h.item (items_of hops) avoids.0 (lanes_differ w i hops avoids.1)

AllPairs-lanes : (w : Wiring) (hops : List Hop) → Apart (lanes_from w hops) → AllPairs (λ j k. lane_of w j ≢ lane_of w k) (items_of hops)
AllPairs-lanes w [] apart = AllPairs-nil (λ j k. lane_of w j ≢ lane_of w k)
AllPairs-lanes w (h ∷ hops) apart = AllPairs-cons (λ j k. lane_of w j ≢ lane_of w k) h.item (items_of hops) (lanes_differ w h.item hops apart.0) (AllPairs-lanes w hops apart.1)

entry_of : (es : List Entry) (i : ℕ) → In i (map (λ (e : Entry). e.item) es) → (e : Entry) × Contains es e × (e.item ≡ i)
entry_of [] i there = absurd there
entry_of (e ∷ es) i (inl same) = (e, (0, omega arith, refl), sym same)
entry_of (e ∷ es) i (inr later) = let found = entry_of es i later in (found.0, (suc found.1.0, omega (arith, found.1.1), found.1.2), found.2)

pub entry_In : (es : List Entry) (e : Entry) → Contains es e → In e.item (map (λ (f : Entry). f.item) es)
entry_In [] e (k, lt, at) = omega arith
entry_In (x ∷ es) e (zero, lt, at) = inl (ap (λ (f : Entry). f.item) (sym at))
entry_In (x ∷ es) e (suc k, lt, at) = inr (entry_In es e (k, omega arith, at))

first_entry : (es : List Entry) (i : ℕ) → slice_get (map (λ (e : Entry). e.item) es) 0 ≡ Some i → (e : Entry) × (slice_get es 0 ≡ Some e) × (e.item ≡ i)
first_entry [] i is = absurd cc
first_entry (e ∷ es) i is = (e, refl, cc)

first_next : (es : List Entry) (p : ℕ → Bool) (e : Entry) → slice_get es 0 ≡ Some e → p e.item ≡ false → find (λ (f : Entry). not (p f.item)) es ≡ Some e
first_next [] p e is idle = absurd cc
first_next (x ∷ es) p e is idle =
    let same : x ≡ e = cc in
    let passes : not (p x.item) ≡ true = ap not (ap (λ (f : Entry). p f.item) same ∙ idle) in
    cond-true (not (p x.item)) (Some x) (find (λ (f : Entry). not (p f.item)) es) passes ∙ ap Some same

no_pending : (w : Wiring) (i : ℕ) → ¬ HasPending (empty_state w) i
no_pending w i h = idle_lane-unfinished h.entry (subst (λ (l : Lane). IsUnfinishedOn l h.entry) (lane_at-empty_state w h.lane) (inl h.pending))

-- ---- an item starts and begins its wait

-- the lane after the moves of a hop
abbrev moved : ℕ → Hop → Lane → Lane
moved next h lane = with_wait 0 h.flush.whole h.flush.item next (with_started 0 h.item lane)

record CanMove (w : Wiring) (s : State) (h : Hop) : Type 0 where
  within : lane_of w h.item < length s.lanes
  may : MayStartFirst (lane_at s (lane_of w h.item)) h.item
  declared : Contains (declared_by w h.item) h.flush

-- what a start begins to run
started : (lane : Lane) (i : ℕ) → MayStartFirst lane i → (e : Entry) × ((with_started 0 i lane).running ≡ Some (begun e)) × (e.item ≡ i)
started lane i may =
    let start = MayStart-first lane i may in
    let found = found-pending lane.pending i start.entry start.pending start.of_item in
    (found.0, ap (option_map begun) found.1, found.3)

wait-effect : (w : Wiring) (s : State) (q : ℕ) (whole : Bool) (b : ℕ) → effect w s (wait_of whole q b) ≡ with_lane s q (with_wait 0 whole b s.next (lane_at s q))
wait-effect w s q false b = refl
wait-effect w s q true b = refl

lawful-wait : (w : Wiring) (s : State) (q : ℕ) (whole : Bool) (b : ℕ) (r : Running) → RunsIn (lane_at s q) 0 r → MayWait w whole b r → Lawful w s (wait_of whole q b)
lawful-wait w s q false b r runs may = (r, runs, may)
lawful-wait w s q true b r runs may = (r, runs, may)

-- one lane has changed so
record HasMoved (w : Wiring) (s : State) (h : Hop) (new : State) : Type 0 where
  next : new.next ≡ s.next
  size : length new.lanes ≡ length s.lanes
  here : lane_at new (lane_of w h.item) ≡ moved s.next h (lane_at s (lane_of w h.item))
  others : (p : ℕ) → p ≢ lane_of w h.item → lane_at new p ≡ lane_at s p

module _ (w : Wiring) (s : State) (h : Hop) (can : CanMove w s h) where
  abbrev lane : ℕ
  lane = lane_of w h.item

  abbrev begins : State
  begins = effect w s (Start lane h.item)

  abbrev waits : State
  waits = effect w begins (wait_of h.flush.whole lane h.flush.item)

  at_start : lane_at begins lane ≡ with_started 0 h.item (lane_at s lane)
  at_start = lane_at-with_lane_same s lane (with_started 0 h.item (lane_at s lane)) can.within

  start_size : length begins.lanes ≡ length s.lanes
  start_size = length-set s.lanes lane (with_started 0 h.item (lane_at s lane))

  lawful_wait : Lawful w begins (wait_of h.flush.whole lane h.flush.item)
  lawful_wait =
      let start = started (lane_at s lane) h.item can.may in
      let e : Entry = start.0 in
      let runs : RunsIn (lane_at begins lane) 0 (begun e) = ap (λ (l : Lane). l.running) at_start ∙ start.1 in
      let there : Contains (declared_by w e.item) h.flush = subst (λ (i : ℕ). Contains (declared_by w i) h.flush) (sym start.2) can.declared in
      lawful-wait w begins lane h.flush.whole h.flush.item (begun e) runs (record { awake = refl; declared = (there.0, h.flush, there.1, there.2, (refl, refl)); fewer = omega (arith, there.1) })

  has_moved : HasMoved w s h waits
  has_moved =
      let is = wait-effect w begins lane h.flush.whole h.flush.item in
      let new : Lane = with_wait 0 h.flush.whole h.flush.item s.next (lane_at begins lane) in
      let within : lane < length begins.lanes = omega (arith, can.within, start_size) in
      record {
        next = ap (λ (x : State). x.next) is;
        size = ap (λ (x : State). length x.lanes) is ∙ length-set begins.lanes lane new ∙ start_size;
        here = ap (λ (x : State). lane_at x lane) is ∙ lane_at-with_lane_same begins lane new within ∙ ap (with_wait 0 h.flush.whole h.flush.item s.next) at_start;
        others = λ p other. ap (λ (x : State). lane_at x p) is ∙ lane_at-with_lane_other begins lane new p other ∙ lane_at-with_lane_other s lane (with_started 0 h.item (lane_at s lane)) p other;
      }

-- ---- one after another

record HaveMoved (w : Wiring) (s : State) (hops : List Hop) (new : State) : Type 0 where
  next : new.next ≡ s.next
  here : (h : Hop) → Contains hops h → lane_at new (lane_of w h.item) ≡ moved s.next h (lane_at s (lane_of w h.item))
  others : (p : ℕ) → Avoids p (lanes_from w hops) → lane_at new p ≡ lane_at s p

all_move : (w : Wiring) (s : State) (hops : List Hop) → Apart (lanes_from w hops) → ((h : Hop) → Contains hops h → CanMove w s h)
    → IsRunFrom w s (flat_map (moves_of w) hops) × HaveMoved w s hops (after w s (flat_map (moves_of w) hops))
all_move w s [] apart can = (tt, record { next = refl; here = λ h there. absurd (omega (arith, there.1)); others = λ p avoids. refl })
all_move w s (h ∷ hops) apart can =
    let one = can h (0, omega arith, refl) in
    let new : State = waits w s h one in
    let has = has_moved w s h one in
    let rest = all_move w new hops apart.1 (λ g there. can_later has g there (can g (Contains-later h hops g there))) in (
      (one.may, (lawful_wait w s h one, rest.0)),
      record {
        next = rest.1.next ∙ has.next;
        here = λ g there. here has rest.1 g there;
        others = λ p avoids. rest.1.others p avoids.1 ∙ has.others p avoids.0;
      },
    )
  where
    unlike : (g : Hop) → Contains hops g → lane_of w g.item ≢ lane_of w h.item
    unlike g there same = not_in (lane_of w h.item) (lanes_from w hops) apart.0 (subst (λ (q : ℕ). In q (lanes_from w hops)) same (lane_In w hops g there))

    can_later : {new : State} → HasMoved w s h new → (g : Hop) → Contains hops g → CanMove w s g → CanMove w new g
    can_later {new} has g there before =
        let same : lane_at new (lane_of w g.item) ≡ lane_at s (lane_of w g.item) = has.others (lane_of w g.item) (unlike g there) in
        record { within = omega (arith, before.within, has.size); may = subst (λ (l : Lane). MayStartFirst l g.item) (sym same) before.may; declared = before.declared }

    here : {new end : State} → HasMoved w s h new → HaveMoved w new hops end → (g : Hop) → Contains (h ∷ hops) g → lane_at end (lane_of w g.item) ≡ moved s.next g (lane_at s (lane_of w g.item))
    here {new} {end} has rest g (zero, lt, at) =
        subst (λ (x : Hop). lane_at end (lane_of w x.item) ≡ moved s.next x (lane_at s (lane_of w x.item))) at (rest.others (lane_of w h.item) apart.0 ∙ has.here)
    here {new} {end} has rest g (suc k, lt, at) =
        let there : Contains hops g = (k, omega arith, at) in
        rest.here g there
        ∙ ap (λ (n : ℕ). moved n g (lane_at new (lane_of w g.item))) has.next
        ∙ ap (moved s.next g) (has.others (lane_of w g.item) (unlike g there))

-- ---- the run

-- hops, and items beside them, whose run ends stuck: their items are on different lanes that have a rescuer, and declare the flushes;
-- what each waits for is queued; and nothing else is queued on a lane that has a rescuer
pub record HoldUp (w : Wiring) (hops : List Hop) (beside : List ℕ) : Type 0 where
  pub declared : (h : Hop) → Contains hops h → Contains (declared_by w h.item) h.flush
  pub rescuer : (h : Hop) → Contains hops h → HasRescuer w (lane_of w h.item)
  pub apart : Apart (lanes_from w hops)
  pub once : Apart (queued hops beside)
  pub below : All (λ i. i < items w) (queued hops beside)
  pub holder : (h : Hop) → Contains hops h → (i : ℕ) × In i (queued hops beside) × (lane_of w i ≡ lane_of w h.flush.item) × (h.flush.whole ≡ false → i ≡ h.flush.item)
  pub lanes : (i : ℕ) → In i beside → (¬ HasRescuer w (lane_of w i)) ⊎ In (lane_of w i) (lanes_from w hops)

module _ (w : Wiring) (hops : List Hop) (beside : List ℕ) (wiring : IsWiring w) (hold : HoldUp w hops beside) where
  abbrev all : List ℕ
  all = queued hops beside

  -- ---- after the queueings

  abbrev start : State
  start = end_of w (map Queue all)

  IsRun-queueings : IsRun w (map Queue all)
  IsRun-queueings = IsRunFrom-queued w all (empty_state w) hold.below (AllPairs-Apart all hold.once) (λ i there. no_pending w i)

  start_is_sound : IsSoundState w start
  start_is_sound = IsSoundState-end_of w (map Queue all) IsRun-queueings

  lanes_exist : All (λ i. lane_of w i < length (empty_state w).lanes) all
  lanes_exist = All-weaker (λ i. i < items w) (λ i. lane_of w i < length (empty_state w).lanes) (λ i lt.
      let size : length (empty_state w).lanes ≡ w.lanes = length-replicate w.lanes idle_lane in
      let within : lane_of w i < w.lanes = lane_of-within w wiring i lt in
      omega arith
      ) all hold.below

  pending_at_start : (q : ℕ) → pending_items start q ≡ on_lane w q all
  pending_at_start q =
      pending_items-all_queued w all (empty_state w) q lanes_exist
      ∙ ap (λ (l : Lane). map (λ (e : Entry). e.item) l.pending ++ on_lane w q all) (lane_at-empty_state w q)

  none_runs : (q : ℕ) → (lane_at start q).running ≡ None
  none_runs q = running-all_queued w all (empty_state w) q ∙ ap (λ (l : Lane). l.running) (lane_at-empty_state w q)

  only_rescuers : OnlyRescuersRun start
  only_rescuers = only_rescuers-end_of w (map Queue all) (no_help-queued all)

  nothing_runs_at_start : (q c : ℕ) (r : Running) → ¬ RunsIn (lane_at start q) c r
  nothing_runs_at_start q c r runs =
      let rescuer : (lane_at start q).running ≡ Some r = subst (λ (k : ℕ). run_by (lane_at start q) k ≡ Some r) (only_rescuers q c r runs) runs in
      let never : None ≡ Some r = sym (none_runs q) ∙ rescuer in
      cc

  nothing_is_running : (q i : ℕ) → is_running (lane_at start q) i ≡ false
  nothing_is_running q i = false_from_ne_true (is_running (lane_at start q) i) (λ runs.
      let some = is_running-some (lane_at start q) i runs in
      nothing_runs_at_start q some.0 some.1 some.2
      )

  -- each item that is queued is pending, and nothing else is
  entry_at_start : (i : ℕ) → In i all → (e : Entry) × Contains (lane_at start (lane_of w i)).pending e × (e.item ≡ i)
  entry_at_start i there =
      let on : Contains (on_lane w (lane_of w i) all) i = Contains-filtered (λ j. eqb (lane_of w j) (lane_of w i)) all i (eq-eqb (lane_of w i) (lane_of w i) refl) (Contains-In i all there) in
      entry_of (lane_at start (lane_of w i)).pending i (subst (λ (js : List ℕ). In i js) (sym (pending_at_start (lane_of w i))) (In-Contains i (on_lane w (lane_of w i) all) on))

  queued_at_start : (q : ℕ) (e : Entry) → Contains (lane_at start q).pending e → In e.item all
  queued_at_start q e there =
      let on : In e.item (on_lane w q all) = subst (λ (js : List ℕ). In e.item js) (pending_at_start q) (entry_In (lane_at start q).pending e there) in
      In-Contains e.item all (Contains-filter (λ j. eqb (lane_of w j) q) all e.item (Contains-In e.item (on_lane w q all) on))

  can_move : (h : Hop) → Contains hops h → CanMove w start h
  can_move h there =
      let q : ℕ = lane_of w h.item in
      let first = first_on_lane w (items_of hops) beside h.item (AllPairs-lanes w hops hold.apart) (Contains-In h.item (items_of hops) (item_In hops h there)) in
      let found = first_entry (lane_at start q).pending h.item (ap (λ (js : List ℕ). slice_get js 0) (pending_at_start q) ∙ first) in
      let next = first_next (lane_at start q).pending (is_running (lane_at start q)) found.0 found.1 (nothing_is_running q found.0.item) in
      let below : h.item < items w = All-contains (λ i. i < items w) all h.item hold.below (Contains-In h.item all (In-append_left h.item (items_of hops) beside (item_In hops h there))) in
      let within : q < w.lanes = lane_of-within w wiring h.item below in
      record { within = omega (arith, within, start_is_sound.one_each); may = record { idle = none_runs q; entry = found.0; first = next; of_item = found.2 }; declared = hold.declared h there }

  -- ---- after the moves

  abbrev end : State
  end = after w start (flat_map (moves_of w) hops)

  moves : IsRunFrom w start (flat_map (moves_of w) hops) × HaveMoved w start hops end
  moves = all_move w start hops hold.apart can_move

  pub IsRun-walk : IsRun w (run_of_walk w hops beside)
  IsRun-walk = IsRunFrom-append w (empty_state w) (map Queue all) (flat_map (moves_of w) hops) IsRun-queueings moves.0

  -- what is queued is unfinished at the end
  left_at_end : (i : ℕ) → In i all → (e : Entry) × IsUnfinishedOn (lane_at end (lane_of w i)) e × (e.item ≡ i) × (e.number < start.next)
  left_at_end i there =
      let e = entry_at_start i there in
      (e.0, stays e.0 e.1 (cases_In (lane_of w i) (lanes_from w hops)), e.2, start_is_sound.given (lane_of w i) e.0 (inl e.1))
    where
      q : ℕ
      q = lane_of w i

      stays : (e : Entry) → Contains (lane_at start q).pending e → In q (lanes_from w hops) ⊎ Avoids q (lanes_from w hops) → IsUnfinishedOn (lane_at end q) e
      stays e pending (inr none) = subst (λ (l : Lane). IsUnfinishedOn l e) (sym (moves.1.others q none)) (inl pending)
      stays e pending (inl there) =
          let found = In_lane w hops q there in
          let h : Hop = found.0 in
          let lane : Lane = lane_at start q in
          let was : lane_at start (lane_of w h.item) ≡ lane = ap (lane_at start) found.2 in
          let is : lane_at end q ≡ moved start.next h lane = ap (lane_at end) (sym found.2) ∙ moves.1.here h found.1 ∙ ap (moved start.next h) was in
          let begun_too : IsUnfinishedOn (with_started 0 h.item lane) e = unfinished-started lane 0 h.item e (start_is_sound.once q) (omega arith) (none_runs q) (inl pending) in
          let waits_too : IsUnfinishedOn (moved start.next h lane) e = unfinished-going_on (with_started 0 h.item lane) 0 (waiting_for h.flush.whole h.flush.item start.next) e (λ x. refl) begun_too in
          subst (λ (l : Lane). IsUnfinishedOn l e) (sym is) waits_too

  -- what runs at the end is the item of a hop, which waits for what it flushes
  record RunsAtEnd (q c : ℕ) (r : Running) : Type 0 where
    hop : Hop
    there : Contains hops hop
    rescuers : c ≡ 0
    waits : r.waiting ≡ Some (record { target = hop.flush.item; whole = hop.flush.whole; mark = start.next })

  runs_at_end : (q c : ℕ) (r : Running) → RunsIn (lane_at end q) c r → RunsAtEnd q c r
  runs_at_end q c r runs = by (cases_In q (lanes_from w hops))
    where
      context : (h : Hop) → Contains hops h → (k : ℕ) → run_by (moved start.next h (lane_at start (lane_of w h.item))) k ≡ Some r → k ≡ c → RunsAtEnd q c r
      context h there zero at same =
          let begins = started (lane_at start (lane_of w h.item)) h.item (can_move h there).may in
          let is : Some (waiting_for h.flush.whole h.flush.item start.next (begun begins.0)) ≡ Some r = sym (ap (option_map (waiting_for h.flush.whole h.flush.item start.next)) begins.1) ∙ at in
          let one : waiting_for h.flush.whole h.flush.item start.next (begun begins.0) ≡ r = cc in
          record { hop = h; there = there; rescuers = sym same; waits = ap (λ (x : Running). x.waiting) (sym one) }
      context h there (suc k) at same = absurd (nothing_runs_at_start (lane_of w h.item) (suc k) r at)

      by : In q (lanes_from w hops) ⊎ Avoids q (lanes_from w hops) → RunsAtEnd q c r
      by (inr none) = absurd (nothing_runs_at_start q c r (subst (λ (l : Lane). RunsIn l c r) (moves.1.others q none) runs))
      by (inl there) =
          let found = In_lane w hops q there in
          let is : lane_at end q ≡ moved start.next found.0 (lane_at start (lane_of w found.0.item)) = ap (lane_at end) (sym found.2) ∙ moves.1.here found.0 found.1 in
          context found.0 found.1 c (subst (λ (l : Lane). RunsIn l c r) is runs) refl

  -- so it can't go on
  asleep : (q c : ℕ) (r : Running) → RunsIn (lane_at end q) c r → ¬ (r.waiting ≡ None)
  asleep q c r runs awake =
      let is = runs_at_end q c r runs in
      let f : Waiting = record { target = is.hop.flush.item; whole = is.hop.flush.whole; mark = start.next } in
      let never : None ≡ Some f = sym awake ∙ is.waits in
      cc

  not_over : (q c : ℕ) (r : Running) → RunsIn (lane_at end q) c r → (whole : Bool) (b : ℕ) → ¬ MayBeOver w end whole b r
  not_over q c r runs whole b may =
      let is = runs_at_end q c r runs in
      let h : Hop = is.hop in
      let both : Some may.flush ≡ Some (record { target = h.flush.item; whole = h.flush.whole; mark = start.next }) = sym may.waits ∙ is.waits in
      let same : may.flush ≡ record { target = h.flush.item; whole = h.flush.whole; mark = start.next } = cc in
      let holder = hold.holder h is.there in
      let left = left_at_end holder.0 holder.1 in
      let target : b ≡ h.flush.item = sym may.target ∙ ap (λ (f : Waiting). f.target) same in
      let kind : whole ≡ h.flush.whole = sym may.kind ∙ ap (λ (f : Waiting). f.whole) same in
      let mark : may.flush.mark ≡ start.next = ap (λ (f : Waiting). f.mark) same in
      let on : lane_of w holder.0 ≡ lane_of w b = holder.2 ∙ ap (lane_of w) (sym target) in
      may.done (held_back-holder w end whole b may.flush.mark left.0.item (record {
        entry = left.0;
        unfinished = subst (λ (p : ℕ). IsUnfinishedOn (lane_at end p) left.0) on left.1;
        of_item = refl;
        below = omega (arith, left.3, mark);
        itself = λ one. left.2 ∙ holder.3 (sym kind ∙ one) ∙ sym target;
      }))

  -- and no rescuer can start anything
  no_start : (q i : ℕ) → HasRescuer w q → ¬ MayStartFirst (lane_at end q) i
  no_start q i rescuer may = by (cases_In q (lanes_from w hops))
    where
      by : In q (lanes_from w hops) ⊎ Avoids q (lanes_from w hops) → ⊥
      by (inl there) =
          let found = In_lane w hops q there in
          let h : Hop = found.0 in
          let is : lane_at end q ≡ moved start.next h (lane_at start (lane_of w h.item)) = ap (lane_at end) (sym found.2) ∙ moves.1.here h found.1 in
          let begins = started (lane_at start (lane_of w h.item)) h.item (can_move h found.1).may in
          let runs : (lane_at end q).running ≡ Some (waiting_for h.flush.whole h.flush.item start.next (begun begins.0)) = ap (λ (l : Lane). l.running) is ∙ ap (option_map (waiting_for h.flush.whole h.flush.item start.next)) begins.1 in
          let never : None ≡ Some (waiting_for h.flush.whole h.flush.item start.next (begun begins.0)) = sym may.idle ∙ runs in
          cc
      by (inr none) =
          let same : lane_at end q ≡ lane_at start q = moves.1.others q none in
          let before : MayStartFirst (lane_at start q) i = subst (λ (l : Lane). MayStartFirst l i) same may in
          let next = next-may (lane_at start q).pending (is_running (lane_at start q)) before.entry before.first in
          let there : In before.entry.item all = queued_at_start q before.entry next.0 in
          let own : lane_of w before.entry.item ≡ q = (start_is_sound.own_lane q before.entry (inl next.0)).1 in
          elim (In-append before.entry.item (items_of hops) beside there) [
            | inl waits ↦ (
                let h = In_item hops before.entry.item waits in
                not_in q (lanes_from w hops) none (subst (λ (p : ℕ). In p (lanes_from w hops)) (ap (lane_of w) h.2 ∙ own) (lane_In w hops h.0 h.1))
                )
            | inr other ↦ elim (hold.lanes before.entry.item other) [
              | inl bare ↦ bare (subst (HasRescuer w) (sym own) rescuer)
              | inr on ↦ not_in q (lanes_from w hops) none (subst (λ (p : ℕ). In p (lanes_from w hops)) own on)
            ]
          ]

  no_step : (step : Step) → IsForcedStep w step → ¬ Lawful w end step
  no_step (Queue i) forced lawful = forced
  no_step (Cancel i) forced lawful = forced
  no_step (Start q i) forced lawful = no_start q i forced lawful
  no_step (Wait q b) forced lawful = asleep q 0 lawful.0 lawful.1 lawful.2.awake
  no_step (WaitAll q b) forced lawful = asleep q 0 lawful.0 lawful.1 lawful.2.awake
  no_step (Over q b) forced lawful = not_over q 0 lawful.0 lawful.1 false b lawful.2
  no_step (OverAll q b) forced lawful = not_over q 0 lawful.0 lawful.1 true b lawful.2
  no_step (Finish q i) forced lawful = asleep q 0 lawful.0 lawful.1 lawful.2.awake
  no_step (Help q h (DoStart i)) forced lawful = forced
  no_step (Help q h (DoWait b)) forced lawful = asleep q h lawful.1.0 lawful.1.1 lawful.1.2.awake
  no_step (Help q h (DoWaitAll b)) forced lawful = asleep q h lawful.1.0 lawful.1.1 lawful.1.2.awake
  no_step (Help q h (DoOver b)) forced lawful = not_over q h lawful.1.0 lawful.1.1 false b lawful.1.2
  no_step (Help q h (DoOverAll b)) forced lawful = not_over q h lawful.1.0 lawful.1.1 true b lawful.1.2
  no_step (Help q h (DoFinish i)) forced lawful = asleep q h lawful.1.0 lawful.1.1 lawful.1.2.awake

  first_hop : (hs : List Hop) → 0 < length hs → (h : Hop) × Contains hs h
  first_hop [] some = absurd (omega arith)
  first_hop (h ∷ hs) some = (h, (0, omega arith, refl))

  pub IsStuck-walk : 0 < length hops → IsStuck w (end_of w (run_of_walk w hops beside))
  IsStuck-walk some =
      let h = first_hop hops some in
      let left = left_at_end h.0.item (In-append_left h.0.item (items_of hops) beside (item_In hops h.0 h.1)) in
      subst (λ (s : State). IsStuck w s) (sym (after-append w (empty_state w) (map Queue all) (flat_map (moves_of w) hops))) (record {
        left = record { lane = lane_of w h.0.item; entry = left.0; unfinished = left.1 };
        rescuer = hold.rescuer h.0 h.1;
        no_step = no_step;
      })

  -- and it is stuck for each item that is queued
  pub IsStuckFor-walk : (named : List ℕ) (x : ℕ) → Contains named x → In x all
      → IsStuckFor w named (end_of w (run_of_walk w hops beside))
  IsStuckFor-walk named x is_named there =
      let left = left_at_end x there in
      subst (λ (s : State). IsStuckFor w named s)
      (sym (after-append w (empty_state w) (map Queue all) (flat_map (moves_of w) hops))) (record {
        item = x;
        is_named = is_named;
        left = record { lane = lane_of w x; entry = left.0; unfinished = left.1; of_item = left.2 };
        no_step = no_step;
      })
