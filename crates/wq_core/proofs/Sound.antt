-- What holds for every state after a run.
use Rattle.std.proofs.Common.{◌≡◌, ◌≢◌, ℕ, ◌+◌, ◌<◌, ◌≤◌, inl, inr, Bool, not, eqb, List, [], ◌∷◌, length, get_or, Option, Some, None, refl, sym, ap, subst, ◌∙◌, arith, true, false}
use Rattle.std.specs.Prelude.{AllPairs, Contains, option_map}
use Rattle.std.specs.List.{filter}
use Rattle.std.proofs.lemmas.Bool.{both_ways}
use Rattle.std.proofs.lemmas.List.{length-set, length-replicate}
use Rattle.std.proofs.lemmas.List.Elements.{Contains-get_or, Contains-push_cases}
use Rattle.std.proofs.lemmas.List.Quantifiers.{all_pairs_push}
use Rattle.wq_items.specs.Table.{ItemWaitsBy}
use Rattle.std.proofs.lemmas.List.Kept.{AllPairs-filter}
use Rattle.wq_core.specs.declared.entry.Entry.{Entry}
use Rattle.wq_core.specs.declared.entry.Waiting.{Waiting}
use Rattle.wq_core.specs.declared.entry.Running.{Running}
use Rattle.wq_core.specs.declared.step.Step.{Step}
use Rattle.wq_core.specs.declared.step.Step.TheVariants.{Queue, Cancel, Start, Wait, Over, WaitAll, OverAll, Finish, Help}
use Rattle.wq_core.specs.declared.step.HelpStep.{HelpStep}
use Rattle.wq_core.specs.declared.step.HelpStep.TheVariants.{Start as DoStart, Wait as DoWait, WaitAll as DoWaitAll, Over as DoOver, OverAll as DoOverAll, Finish as DoFinish}
use Rattle.wq_core.specs.Wiring.{Wiring, max_helpers, helpers_of, items, lane_of, declared_by}
use Rattle.wq_core.specs.State.{Lane, State, idle_lane, lane_at, with_lane, empty_state, run_by, with_run_by, RunsIn, is_running, IsUnfinishedOn, HasPending, IsPendingOn}
use Rattle.wq_core.specs.Rules.{MayWait, MayStart, MayDo, Lawful, begun, waiting_for, going_on, with_queued, with_cancelled, with_started, with_wait, with_over, with_finished, done_by, effect}
use Rattle.wq_core.specs.Runs.{after, IsRunFrom, IsRun, end_of}
use Rattle.wq_core.specs.Held.{IsSoundRunning, IsSoundState}
use Rattle.wq_core.proofs.Contexts.{cases_run_by, places_kept, pending_kept, same_run, mapped, idle_runs, found-pending, MayStart-first, some-is_running}
use Rattle.wq_core.proofs.LaneLemmas.{cases_with_lane, same_running, lane_at-empty_state, idle_lane-unfinished, Contains-filter, AllPairs-nil}

-- two entries of one lane that may both be pending
abbrev pub Differ : Entry → Entry → Type 0
Differ e f = e.item ≢ f.item

-- an item runs in at most one context of the lane
abbrev OneContext : Lane → Type 0
OneContext lane = (c d : ℕ) (r x : Running) → RunsIn lane c r → RunsIn lane d x → r.entry.item ≡ x.entry.item → c ≡ d

-- what holds for each lane of a sound state
pub record IsSoundLane (w : Wiring) (next q : ℕ) (lane : Lane) : Type 0 where
  pub places : length lane.helping ≡ max_helpers
  pub own_lane : (e : Entry) → IsUnfinishedOn lane e → (e.item < items w) × (lane_of w e.item ≡ q)
  pub given : (e : Entry) → IsUnfinishedOn lane e → e.number < next
  pub once : AllPairs Differ lane.pending
  pub one_context : OneContext lane
  pub helpers : (c : ℕ) (r : Running) → RunsIn lane c r → c ≤ helpers_of w q
  pub running : (c : ℕ) (r : Running) → RunsIn lane c r → IsSoundRunning w r

pub IsSoundLane-lane_at : (w : Wiring) (s : State) (q : ℕ) → IsSoundState w s → IsSoundLane w s.next q (lane_at s q)
IsSoundLane-lane_at w s q sound = record {
  places = sound.places q;
  own_lane = sound.own_lane q;
  given = sound.given q;
  once = sound.once q;
  one_context = sound.one_context q;
  helpers = sound.helpers q;
  running = sound.running q;
}

pub IsSoundState-lanes : (w : Wiring) (s : State) → length s.lanes ≡ w.lanes
    → ((q : ℕ) → IsSoundLane w s.next q (lane_at s q)) → IsSoundState w s
IsSoundState-lanes w s size each = record {
  one_each = size;
  places = λ q. (each q).places;
  own_lane = λ q. (each q).own_lane;
  given = λ q. (each q).given;
  once = λ q. (each q).once;
  one_context = λ q. (each q).one_context;
  helpers = λ q. (each q).helpers;
  running = λ q. (each q).running;
}

-- numbers that were given stay given
IsSoundLane-later : (w : Wiring) (next later q : ℕ) (lane : Lane) → next ≤ later → IsSoundLane w next q lane
    → IsSoundLane w later q lane
IsSoundLane-later w next later q lane le sound = record {
  places = sound.places;
  own_lane = sound.own_lane;
  given = λ e h. let before : e.number < next = sound.given e h in omega arith;
  once = sound.once;
  one_context = sound.one_context;
  helpers = sound.helpers;
  running = sound.running;
}

-- a sound state in which one lane changes to a sound one, while numbers are given
IsSoundState-with_lane : (w : Wiring) (s : State) (q : ℕ) (lane : Lane) (next : ℕ) → s.next ≤ next → IsSoundState w s
    → IsSoundLane w next q lane → IsSoundState w (record (with_lane s q lane) { next = next })
IsSoundState-with_lane w s q lane next le sound new =
    IsSoundState-lanes w (record (with_lane s q lane) { next = next }) (length-set s.lanes q lane ∙ sound.one_each) each
  where
    each : (p : ℕ) → IsSoundLane w next p (lane_at (with_lane s q lane) p)
    each p =
        let before : IsSoundLane w s.next p (lane_at s p) = IsSoundLane-lane_at w s p sound in
        elim (cases_with_lane s q lane p) [
          | inl same ↦ subst (IsSoundLane w next p) (sym same) (IsSoundLane-later w s.next next p (lane_at s p) le before)
          | inr there ↦ (
              let here : IsSoundLane w next p lane = subst (λ (k : ℕ). IsSoundLane w next k lane) (sym there.0) new in
              subst (IsSoundLane w next p) (sym there.1) here
              )
        ]

-- the same when no number is given
IsSoundState-with_lane_now : (w : Wiring) (s : State) (q : ℕ) (lane : Lane) → IsSoundState w s
    → (IsSoundLane w s.next q (lane_at s q) → IsSoundLane w s.next q lane) → IsSoundState w (with_lane s q lane)
IsSoundState-with_lane_now w s q lane sound keeps =
    IsSoundState-with_lane w s q lane s.next (omega arith) sound (keeps (IsSoundLane-lane_at w s q sound))

-- ---- before anything is queued

IsSoundLane-idle : (w : Wiring) (next q : ℕ) → IsSoundLane w next q idle_lane
IsSoundLane-idle w next q = record {
  places = refl;
  own_lane = λ e h. absurd (idle_lane-unfinished e h);
  given = λ e h. absurd (idle_lane-unfinished e h);
  once = AllPairs-nil Differ;
  one_context = λ c d r x runs. absurd (idle_runs c r runs);
  helpers = λ c r runs. absurd (idle_runs c r runs);
  running = λ c r runs. absurd (idle_runs c r runs);
}

pub IsSoundState-empty : (w : Wiring) → IsSoundState w (empty_state w)
IsSoundState-empty w =
    IsSoundState-lanes w (empty_state w) (length-replicate w.lanes idle_lane) (λ q.
    subst (IsSoundLane w 0 q) (sym (lane_at-empty_state w q)) (IsSoundLane-idle w 0 q)
    )

-- ---- lanes after a step

-- other entries are pending
IsSoundLane-pending : (w : Wiring) (next later q : ℕ) (lane : Lane) (ps : List Entry) → next ≤ later → IsSoundLane w next q lane
    → ((e : Entry) → Contains ps e → (e.item < items w) × (lane_of w e.item ≡ q) × (e.number < later)) → AllPairs Differ ps
    → IsSoundLane w later q (record lane { pending = ps })
IsSoundLane-pending w next later q lane ps le sound each once = record {
  places = sound.places;
  own_lane = λ e h. elim h [
    | inl pending ↦ (let is = each e pending in (is.0, is.1))
    | inr (c, r, runs, same) ↦ sound.own_lane e (inr (c, r, before c r runs, same))
  ];
  given = λ e h. elim h [
    | inl pending ↦ (each e pending).2
    | inr (c, r, runs, same) ↦ omega (arith, le, sound.given e (inr (c, r, before c r runs, same)))
  ];
  once = once;
  one_context = λ c d r x runs others same. sound.one_context c d r x (before c r runs) (before d x others) same;
  helpers = λ c r runs. sound.helpers c r (before c r runs);
  running = λ c r runs. sound.running c r (before c r runs);
}
  where
    before : (c : ℕ) (r : Running) → RunsIn (record lane { pending = ps }) c r → RunsIn lane c r
    before c r runs = sym (same_run lane ps c) ∙ runs

-- context c runs something else: an entry that is sound on the lane, and of an item that no other context runs
IsSoundLane-run_by : (w : Wiring) (next q : ℕ) (lane : Lane) (c : ℕ) (o : Option Running) → IsSoundLane w next q lane
    → ((r : Running) → o ≡ Some r → (r.entry.item < items w) × (lane_of w r.entry.item ≡ q) × (r.entry.number < next) × IsSoundRunning w r × (c ≤ helpers_of w q))
    → ((r : Running) → o ≡ Some r → (d : ℕ) (x : Running) → RunsIn lane d x → r.entry.item ≡ x.entry.item → c ≡ d)
    → IsSoundLane w next q (with_run_by lane c o)
IsSoundLane-run_by w next q lane c o sound new alone = record {
  places = places_kept lane c o ∙ sound.places;
  own_lane = λ e h. elim h [
    | inl pending ↦ sound.own_lane e (inl (was_pending e pending))
    | inr (k, r, runs, same) ↦ elim (cases_run_by lane c o k) [
      | inl as_before ↦ sound.own_lane e (inr (k, r, sym as_before ∙ runs, same))
      | inr there ↦ (
          let is = new r (sym there.1 ∙ runs) in
          subst (λ (f : Entry). (f.item < items w) × (lane_of w f.item ≡ q)) same (is.0, is.1)
          )
    ]
  ];
  given = λ e h. elim h [
    | inl pending ↦ sound.given e (inl (was_pending e pending))
    | inr (k, r, runs, same) ↦ elim (cases_run_by lane c o k) [
      | inl as_before ↦ sound.given e (inr (k, r, sym as_before ∙ runs, same))
      | inr there ↦ subst (λ (f : Entry). f.number < next) same (new r (sym there.1 ∙ runs)).2
    ]
  ];
  once = subst (λ (ps : List Entry). AllPairs Differ ps) (sym (pending_kept lane c o)) sound.once;
  one_context = λ k d r x runs others same. elim (cases_run_by lane c o k) [
    | inl as_before ↦ elim (cases_run_by lane c o d) [
      | inl too ↦ sound.one_context k d r x (sym as_before ∙ runs) (sym too ∙ others) same
      | inr there ↦ sym (alone x (sym there.1 ∙ others) k r (sym as_before ∙ runs) (sym same)) ∙ sym there.0
    ]
    | inr here ↦ elim (cases_run_by lane c o d) [
      | inl as_before ↦ here.0 ∙ alone r (sym here.1 ∙ runs) d x (sym as_before ∙ others) same
      | inr there ↦ here.0 ∙ sym there.0
    ]
  ];
  helpers = λ k r runs. elim (cases_run_by lane c o k) [
    | inl as_before ↦ sound.helpers k r (sym as_before ∙ runs)
    | inr there ↦ subst (λ (n : ℕ). n ≤ helpers_of w q) (sym there.0) (new r (sym there.1 ∙ runs)).4
  ];
  running = λ k r runs. elim (cases_run_by lane c o k) [
    | inl as_before ↦ sound.running k r (sym as_before ∙ runs)
    | inr there ↦ (new r (sym there.1 ∙ runs)).3
  ];
}
  where
    was_pending : (e : Entry) → Contains (with_run_by lane c o).pending e → Contains lane.pending e
    was_pending e there = subst (λ (ps : List Entry). Contains ps e) (pending_kept lane c o) there

-- a context goes on with its entry, or finishes it
IsSoundLane-going_on : (w : Wiring) (next q : ℕ) (lane : Lane) (c : ℕ) (f : Running → Running)
    → ((r : Running) → (f r).entry ≡ r.entry) → ((r : Running) → RunsIn lane c r → IsSoundRunning w (f r))
    → IsSoundLane w next q lane
    → IsSoundLane w next q (with_run_by lane c (option_map f (run_by lane c)))
IsSoundLane-going_on w next q lane c f keeps goes sound = IsSoundLane-run_by w next q lane c (option_map f (run_by lane c)) sound new alone
  where
    new : (x : Running) → option_map f (run_by lane c) ≡ Some x → (x.entry.item < items w) × (lane_of w x.entry.item ≡ q) × (x.entry.number < next) × IsSoundRunning w x × (c ≤ helpers_of w q)
    new x is =
        let (r, runs, at) = mapped f (run_by lane c) x is in
        let entry : r.entry ≡ x.entry = sym (keeps r) ∙ ap (λ (y : Running). y.entry) at in
        let own = sound.own_lane x.entry (inr (c, r, runs, entry)) in
        (own.0, own.1, sound.given x.entry (inr (c, r, runs, entry)), subst (IsSoundRunning w) at (goes r runs), sound.helpers c r runs)

    alone : (x : Running) → option_map f (run_by lane c) ≡ Some x → (d : ℕ) (y : Running) → RunsIn lane d y → x.entry.item ≡ y.entry.item → c ≡ d
    alone x is d y others same =
        let (r, runs, at) = mapped f (run_by lane c) x is in
        let entry : r.entry ≡ x.entry = sym (keeps r) ∙ ap (λ (z : Running). z.entry) at in
        sound.one_context c d r y runs others (ap (λ (e : Entry). e.item) entry ∙ same)

IsSoundLane-finished : (w : Wiring) (next q c : ℕ) (lane : Lane) → IsSoundLane w next q lane
    → IsSoundLane w next q (with_finished c lane)
IsSoundLane-finished w next q c lane sound = IsSoundLane-run_by w next q lane c None sound (λ r is. absurd cc) (λ r is. absurd cc)

IsSoundLane-queued : (w : Wiring) (next i : ℕ) (lane : Lane) → i < items w
    → ((k : ℕ) (d : Entry) → k < length lane.pending → (get_or lane.pending k d).item ≢ i)
    → IsSoundLane w next (lane_of w i) lane
    → IsSoundLane w (next + 1) (lane_of w i) (with_queued (record { number = next; item = i }) lane)
IsSoundLane-queued w next i lane below none sound =
    let e : Entry = record { number = next; item = i } in
    IsSoundLane-pending w next (next + 1) (lane_of w i) lane (with_queued e lane).pending (omega arith) sound (λ f there. elim (Contains-push_cases lane.pending e f there) [
      | inl before ↦ (let own = sound.own_lane f (inl before) in (own.0, own.1, omega (arith, sound.given f (inl before))))
      | inr same ↦ subst (λ (g : Entry). (g.item < items w) × (lane_of w g.item ≡ lane_of w i) × (g.number < next + 1)) same (below, refl, omega arith)
    ]) (all_pairs_push Differ lane.pending e sound.once none)

IsSoundLane-cancelled : (w : Wiring) (next q i : ℕ) (lane : Lane) → IsSoundLane w next q lane
    → IsSoundLane w next q (with_cancelled i lane)
IsSoundLane-cancelled w next q i lane sound =
    let others : Entry → Bool = λ (e : Entry). not (eqb e.item i) in
    IsSoundLane-pending w next next q lane (filter others lane.pending) (omega arith) sound (λ e there.
    let before : Contains lane.pending e = Contains-filter others lane.pending e there in
    let own = sound.own_lane e (inl before) in
    (own.0, own.1, sound.given e (inl before))
    ) (AllPairs-filter Differ others lane.pending sound.once)

IsSoundRunning-begun : (w : Wiring) (e : Entry) → IsSoundRunning w (begun e)
IsSoundRunning-begun w e = record { made = omega arith; waits = λ f is. absurd cc }

IsSoundLane-started : (w : Wiring) (next q c i : ℕ) (lane : Lane) → MayStart lane c i → c ≤ helpers_of w q → IsSoundLane w next q lane
    → IsSoundLane w next q (with_started c i lane)
IsSoundLane-started w next q c i lane may exists sound =
    let (f, at, there, item) = found-pending lane.pending i may.entry may.pending may.of_item in
    let own = sound.own_lane f (inl there) in
    let fewer : Lane = with_cancelled i lane in
    let started : IsSoundLane w next q (with_run_by fewer c (Some (begun f))) =
    IsSoundLane-run_by w next q fewer c (Some (begun f)) (IsSoundLane-cancelled w next q i lane sound) (λ r is.
    let same : begun f ≡ r = cc in
    subst (λ (x : Running). (x.entry.item < items w) × (lane_of w x.entry.item ≡ q) × (x.entry.number < next) × IsSoundRunning w x × (c ≤ helpers_of w q)) same (
      own.0,
      own.1,
      sound.given f (inl there),
      IsSoundRunning-begun w f,
      exists,
    )) (λ r is d x others same.
    let begins : begun f ≡ r = cc in
    let runs : RunsIn lane d x = sym (same_run lane fewer.pending d) ∙ others in
    let of_item : x.entry.item ≡ i = sym same ∙ ap (λ (y : Running). y.entry.item) (sym begins) ∙ item in
    absurd (both_ways (is_running lane i) may.not_running (some-is_running lane i d x runs of_item))
    ) in
    subst (λ (o : Option Running). IsSoundLane w next q (with_run_by fewer c o)) (sym (ap (option_map begun) at)) started

IsSoundRunning-wait : (w : Wiring) (whole : Bool) (b mark : ℕ) (r : Running) → MayWait w whole b r
    → IsSoundRunning w (waiting_for whole b mark r)
IsSoundRunning-wait w whole b mark r may = record {
  made = let fewer : r.made < length (declared_by w r.entry.item) = may.fewer in omega arith;
  waits = λ f is.
      let flush : Waiting = record { target = b; whole = whole; mark = mark } in
      let at : flush ≡ f = cc in
      (omega arith, subst (λ (g : Waiting). ItemWaitsBy w.waits g.whole r.entry.item g.target) at may.declared);
}

IsSoundRunning-over : (w : Wiring) (r : Running) → IsSoundRunning w r → IsSoundRunning w (going_on r)
IsSoundRunning-over w r sound = record { made = sound.made; waits = λ f is. absurd cc }

IsSoundLane-waiting : (w : Wiring) (next q c : ℕ) (whole : Bool) (b mark : ℕ) (lane : Lane) (r : Running) → RunsIn lane c r → MayWait w whole b r
    → IsSoundLane w next q lane → IsSoundLane w next q (with_wait c whole b mark lane)
IsSoundLane-waiting w next q c whole b mark lane r runs may sound =
    IsSoundLane-going_on w next q lane c (waiting_for whole b mark) (λ x. refl) (λ x other.
    IsSoundRunning-wait w whole b mark x (subst (MayWait w whole b) (same_running lane c r x runs other) may)
    ) sound

IsSoundLane-over : (w : Wiring) (next q c : ℕ) (lane : Lane) → IsSoundLane w next q lane
    → IsSoundLane w next q (with_over c lane)
IsSoundLane-over w next q c lane sound =
    IsSoundLane-going_on w next q lane c going_on (λ x. refl) (λ x runs. IsSoundRunning-over w x (sound.running c x runs)) sound

-- ---- states after a step

not_pending : (s : State) (q i : ℕ) → ¬ HasPending s i → (k : ℕ) (d : Entry) → k < length (lane_at s q).pending
    → (get_or (lane_at s q).pending k d).item ≢ i
not_pending s q i none k d within same =
    let there : IsPendingOn (lane_at s q) (get_or (lane_at s q).pending k d) = Contains-get_or (lane_at s q).pending k d within in
    none (record { lane = q; entry = get_or (lane_at s q).pending k d; pending = there; of_item = same })

IsSoundState-waiting : (w : Wiring) (s : State) (q c : ℕ) (whole : Bool) (b : ℕ) → IsSoundState w s → (r : Running) → RunsIn (lane_at s q) c r → MayWait w whole b r
    → IsSoundState w (with_lane s q (with_wait c whole b s.next (lane_at s q)))
IsSoundState-waiting w s q c whole b sound r runs may =
    let lane : Lane = lane_at s q in
    IsSoundState-with_lane_now w s q (with_wait c whole b s.next lane) sound (IsSoundLane-waiting w s.next q c whole b s.next lane r runs may)

IsSoundState-over : (w : Wiring) (s : State) (q c : ℕ) → IsSoundState w s → IsSoundState w (with_lane s q (with_over c (lane_at s q)))
IsSoundState-over w s q c sound =
    let lane : Lane = lane_at s q in
    IsSoundState-with_lane_now w s q (with_over c lane) sound (IsSoundLane-over w s.next q c lane)

-- what a context that exists does
IsSoundState-deed : (w : Wiring) (s : State) (q c : ℕ) (deed : HelpStep) → c ≤ helpers_of w q → IsSoundState w s → MayDo w s q c deed
    → IsSoundState w (done_by s q c deed)
IsSoundState-deed w s q c (DoStart i) exists sound may =
    let lane : Lane = lane_at s q in
    IsSoundState-with_lane_now w s q (with_started c i lane) sound (IsSoundLane-started w s.next q c i lane may exists)
IsSoundState-deed w s q c (DoWait b) exists sound (r, runs, may) = IsSoundState-waiting w s q c false b sound r runs may
IsSoundState-deed w s q c (DoWaitAll b) exists sound (r, runs, may) = IsSoundState-waiting w s q c true b sound r runs may
IsSoundState-deed w s q c (DoOver b) exists sound may = IsSoundState-over w s q c sound
IsSoundState-deed w s q c (DoOverAll b) exists sound may = IsSoundState-over w s q c sound
IsSoundState-deed w s q c (DoFinish i) exists sound may =
    let lane : Lane = lane_at s q in
    IsSoundState-with_lane_now w s q (with_finished c lane) sound (IsSoundLane-finished w s.next q c lane)

pub IsSoundState-effect : (w : Wiring) (s : State) (step : Step) → IsSoundState w s → Lawful w s step
    → IsSoundState w (effect w s step)
IsSoundState-effect w s (Queue i) sound (below, none) =
    let q : ℕ = lane_of w i in
    let before : IsSoundLane w s.next q (lane_at s q) = IsSoundLane-lane_at w s q sound in
    let new : Lane = with_queued (record { number = s.next; item = i }) (lane_at s q) in
    let queued : IsSoundLane w (s.next + 1) q new = IsSoundLane-queued w s.next i (lane_at s q) below (not_pending s q i none) before in
    IsSoundState-with_lane w s q new (s.next + 1) (omega arith) sound queued
IsSoundState-effect w s (Cancel i) sound lawful =
    let q : ℕ = lane_of w i in
    let lane : Lane = lane_at s q in
    IsSoundState-with_lane_now w s q (with_cancelled i lane) sound (IsSoundLane-cancelled w s.next q i lane)
IsSoundState-effect w s (Start q i) sound lawful = IsSoundState-deed w s q 0 (DoStart i) (omega arith) sound (MayStart-first (lane_at s q) i lawful)
IsSoundState-effect w s (Wait q b) sound lawful = IsSoundState-deed w s q 0 (DoWait b) (omega arith) sound lawful
IsSoundState-effect w s (WaitAll q b) sound lawful = IsSoundState-deed w s q 0 (DoWaitAll b) (omega arith) sound lawful
IsSoundState-effect w s (Over q b) sound lawful = IsSoundState-deed w s q 0 (DoOver b) (omega arith) sound lawful
IsSoundState-effect w s (OverAll q b) sound lawful = IsSoundState-deed w s q 0 (DoOverAll b) (omega arith) sound lawful
IsSoundState-effect w s (Finish q i) sound lawful = IsSoundState-deed w s q 0 (DoFinish i) (omega arith) sound lawful
IsSoundState-effect w s (Help q h deed) sound (helper, may) = IsSoundState-deed w s q h deed helper.1 sound may

-- ---- states after runs

pub IsSoundState-after : (w : Wiring) (s : State) (steps : List Step) → IsSoundState w s
    → IsRunFrom w s steps → IsSoundState w (after w s steps)
IsSoundState-after w s [] sound run = sound
IsSoundState-after w s (step ∷ steps) sound run =
    IsSoundState-after w (effect w s step) steps (IsSoundState-effect w s step sound run.0) run.1

pub IsSoundState-end_of : (w : Wiring) (steps : List Step) → IsRun w steps
    → IsSoundState w (end_of w steps)
IsSoundState-end_of w steps run = IsSoundState-after w (empty_state w) steps (IsSoundState-empty w) run
