-- Whatever happens, enough sleepers are woken.
use Rattle.std.proofs.Common.{◌≡◌, ◌≢◌, ℕ, ◌+◌, ◌≤◌, ◌⊎◌, inl, inr, Bool, true, false, not, eqb, List, [], ◌∷◌, ◌++◌}
use Rattle.std.proofs.Common.{length, Option, Some, None, refl, sym, ap, subst, ◌∙◌, arith, Contains, option_map}
use Rattle.std.proofs.lemmas.Bool.{cases_eq, ne_eqb}
use Rattle.std.proofs.lemmas.List.Elements.{Contains-append_left}
use Rattle.wq_items.proofs.Lists.{Contains-filtered}
use Rattle.wq_history.proofs.Words.{Entry, Running, Step, QueueStep, CancelStep, HelpStep, DoStart, DoWait, DoWaitAll}
use Rattle.wq_history.proofs.Words.{DoOver, DoOverAll, DoFinish, max_helpers, HasHelper, lane_of, Lane, State, lane_at}
use Rattle.wq_history.proofs.Words.{run_by, with_run_by, RunsIn, next_of, IsUnfinishedOn, HasUnfinished}
use Rattle.wq_history.proofs.Words.{HasUnfinishedBelow, IsBusyBelow, MayDo, with_queued, with_cancelled, with_started}
use Rattle.wq_history.proofs.Words.{with_finished, effect, IsSoundState, Event, Wake, Condition, WorkOn, EndOf, AllDone}
use Rattle.wq_history.proofs.Words.{sleepers_for, startable, WakesEnough, WakesBy, step_of, MayCome, BookView, state}
use Rattle.wq_history.proofs.Words.{IsBook, Appends}
use Rattle.wq_core.specs.State.{with_lane}
use Rattle.wq_core.specs.Rules.{waiting_for, going_on, done_by}
use Rattle.wq_core.proofs.Contexts.{helpers_of-few, MayStart-first, cases_run_by, pending_kept, same_run}
use Rattle.wq_core.proofs.Knots.{unfinished-started, unfinished-going_on}
use Rattle.wq_core.proofs.LaneLemmas.{cases_with_lane, same_running}
use Rattle.wq_rows.specs.declared.event.Event.TheVariants.{Queue, Cancel, Start, Wait, Over, Finish, WaitAll, OverAll}
use Rattle.wq_rows.specs.declared.event.Event.TheVariants.{Help}
use Rattle.wq_history.specs.declared.sleepers.Sleepers.TheVariants.{Contexts}
use Rattle.wq_history.specs.declared.sleepers.WokenContexts.{WokenContexts}
use Rattle.wq_history.specs.declared.sleepers.WokenContexts.TheVariants.{All as AllOf, Everybody}
use Rattle.wq_history.specs.Waits.{ItemDone, LaneDone, IsMet, IsMetIn, WakesIfEnded, WakesIfPending, WakesWaiters}
use Rattle.wq_history.specs.Waits.{WakesByFinish, one_context, by_closing, WakesContext, WakesContexts, WakesOne}
use Rattle.wq_history.specs.Waits.{WakesAll, LetsAllGo, BecomesMet, WakesByDeed, WakesByCancel}
use Rattle.wq_history.proofs.Histories.{state_after-step, state_after-none}
use Rattle.wq_history.proofs.LegalRows.{IsSoundState-legal}
use Rattle.wq_history.proofs.Startable.{startable-queued, startable-cancelled, startable-started, startable-going_on}
use Rattle.wq_history.proofs.Startable.{startable-finished, startable-finished_none, startable-some, startable-none}

-- of a lane no more entries may be started than before, or one more, and one of its contexts is woken
abbrev WakesOneEach : Wake → ℕ → Lane → Lane → Type 0
WakesOneEach wake q old new =
    (startable new ≤ startable old) ⊎ ((startable new ≤ startable old + 1) × WakesOne wake (Contexts q))

-- nothing changes
pub by_none : (old new : BookView) (wake : Wake) → new.closed ≡ old.closed → state new ≡ state old
    → WakesEnough old new wake
by_none old new wake closed is = record {
  all = λ c lets becomes. absurd (becomes.before
      (subst (λ (s : State). IsMetIn s old.closed c) is (subst (λ k. IsMetIn (state new) k c) closed becomes.now)));
  one_each = λ q. inl (omega (arith, ap (λ (s : State). startable (lane_at s q)) is));
}

-- ---- one lane changes

module _ (old new : BookView) (closed : new.closed ≡ old.closed) (q : ℕ) (lane : Lane) (next : ℕ)
    (is : state new ≡ record (with_lane (state old) q lane) { next = next }) (wake : Wake) where
  -- each lane is as it was, or it is this one
  lanes : (p : ℕ)
      → (lane_at (state new) p ≡ lane_at (state old) p) ⊎ ((p ≡ q) × (lane_at (state new) p ≡ lane))
  lanes p = subst (λ (s : State). (lane_at s p ≡ lane_at (state old) p) ⊎ ((p ≡ q) × (lane_at s p ≡ lane))) (sym is)
      (cases_with_lane (state old) q lane p)

  -- what holds of the new lane, if it held of the old one, holds of each lane
  each_lane : (P : Lane → Lane → Type 0) → ((l : Lane) → P l l) → P (lane_at (state old) q) lane
      → (p : ℕ) → P (lane_at (state old) p) (lane_at (state new) p)
  each_lane P same holds p = elim (lanes p) [
    | inl as_before ↦ subst (λ (l : Lane). P (lane_at (state old) p) l) (sym as_before) (same (lane_at (state old) p))
    | inr there ↦ subst (λ (l : Lane). P (lane_at (state old) p) l) (sym there.1)
        (subst (λ (x : ℕ). P (lane_at (state old) x) lane) (sym there.0) holds)
  ]

  keeps : (e : Entry) → (IsUnfinishedOn (lane_at (state old) q) e → IsUnfinishedOn lane e) → (p : ℕ)
      → IsUnfinishedOn (lane_at (state old) p) e → IsUnfinishedOn (lane_at (state new) p) e
  keeps e keep p = each_lane (λ a b. IsUnfinishedOn a e → IsUnfinishedOn b e) (λ l h. h) keep p

  fewer : startable lane ≤ startable (lane_at (state old) q)
      → (p : ℕ) → WakesOneEach wake p (lane_at (state old) p) (lane_at (state new) p)
  fewer less p = inl (each_lane (λ a b. startable b ≤ startable a) (λ l. omega arith) less p)

  more : startable lane ≤ startable (lane_at (state old) q) + 1 → WakesOne wake (Contexts q)
      → (p : ℕ) → WakesOneEach wake p (lane_at (state old) p) (lane_at (state new) p)
  more most wakes p = elim (lanes p) [
    | inl as_before ↦ inl (omega (arith, ap startable as_before))
    | inr there ↦ inr (
      omega (arith, ap startable there.1, most, ap (λ (x : ℕ). startable (lane_at (state old) x)) there.0),
      subst (λ (x : ℕ). WakesOne wake (Contexts x)) (sym there.0) wakes,
    )
  ]

  -- a lane has ended that hadn't: it is this one
  ended_here : (p : ℕ) → (¬ IsMet old (EndOf p)) → IsMet new (EndOf p) → (p ≡ q) × (lane.pending ≡ [])
  ended_here p before now = elim (lanes p) [
    | inl as_before ↦ absurd (before (
      sym closed ∙ now.0,
      ap (λ (l : Lane). l.pending) (sym as_before) ∙ now.1,
    ))
    | inr there ↦ (there.0, ap (λ (l : Lane). l.pending) (sym there.1) ∙ now.1)
  ]

  -- all its contexts are woken
  ended : WakesIfEnded new q wake.contexts → (p : ℕ) → (¬ IsMet old (EndOf p)) → IsMet new (EndOf p)
      → WakesContexts wake.contexts p
  ended (inl (met, woken)) p before now =
      subst (λ (x : WokenContexts). WakesContexts x p) (sym woken) (sym (ended_here p before now).0)
  ended (inr (never, none)) p before now =
      absurd (never (subst (λ (x : ℕ). IsMet new (EndOf x)) (ended_here p before now).0 now))

  -- as much is pending, so none has ended
  none_ended : lane.pending ≡ (lane_at (state old) q).pending → (p : ℕ) → (¬ IsMet old (EndOf p)) → IsMet new (EndOf p)
      → WakesContexts wake.contexts p
  none_ended same p before now =
      let as_before = each_lane (λ a b. b.pending ≡ a.pending) (λ l. refl) same p in
      absurd (before (sym closed ∙ now.0, sym as_before ∙ now.1))

  -- what was unfinished is so still, so only contexts can have to be woken
  keeps-all : ((e : Entry) → IsUnfinishedOn (lane_at (state old) q) e → IsUnfinishedOn lane e)
      → ((p : ℕ) → (¬ IsMet old (EndOf p)) → IsMet new (EndOf p) → WakesContexts wake.contexts p)
      → ((p : ℕ) → WakesOneEach wake p (lane_at (state old) p) (lane_at (state new) p)) → WakesEnough old new wake
  keeps-all keep ends one = record { all = all; one_each = one } where
    all : (c : Condition) → LetsAllGo c → BecomesMet old new c → WakesAll wake (sleepers_for c)
    all (WorkOn p) lets becomes = absurd lets
    all (EndOf p) lets becomes = ends p becomes.before becomes.now
    all (ItemDone i mark) lets becomes = absurd (becomes.before (λ (h : HasUnfinishedBelow (state old) i mark).
        let stays = keeps h.entry (keep h.entry) h.lane h.unfinished in
        becomes.now
        (record { lane = h.lane; entry = h.entry; unfinished = stays; of_item = h.of_item; below = h.below })))
    all (LaneDone p mark) lets becomes = absurd (becomes.before (λ (h : IsBusyBelow (lane_at (state old) p) mark).
        let stays = keeps h.entry (keep h.entry) p h.unfinished in
        becomes.now (record { entry = h.entry; unfinished = stays; below = h.below })))
    all AllDone lets becomes = absurd (becomes.before (
      sym closed ∙ becomes.now.0,
      (λ (h : HasUnfinished (state old)).
          let stays = keeps h.entry (keep h.entry) h.lane h.unfinished in
          becomes.now.1 (record { lane = h.lane; entry = h.entry; unfinished = stays })),
    ))

  -- entries of item i alone have ended on this lane: those are woken who wait for either
  ends-wake : (i : ℕ) → ((e : Entry) → e.item ≢ i → IsUnfinishedOn (lane_at (state old) q) e → IsUnfinishedOn lane e)
      → WakesWaiters new q i wake
      → ((p : ℕ) → (¬ IsMet old (EndOf p)) → IsMet new (EndOf p) → WakesContexts wake.contexts p)
      → ((p : ℕ) → WakesOneEach wake p (lane_at (state old) p) (lane_at (state new) p)) → WakesEnough old new wake
  ends-wake i others woken ends one = record { all = all; one_each = one } where
    all : (c : Condition) → LetsAllGo c → BecomesMet old new c → WakesAll wake (sleepers_for c)
    all (WorkOn p) lets becomes = absurd lets
    all (EndOf p) lets becomes = ends p becomes.before becomes.now
    all (ItemDone j mark) lets becomes = elim (cases_eq j i) [
      | inl same ↦ woken.0 ∙ ap Some (sym same)
      | inr other ↦ absurd (becomes.before (λ (h : HasUnfinishedBelow (state old) j mark).
          let stays = keeps h.entry (others h.entry (λ of_i. other (sym h.of_item ∙ of_i))) h.lane h.unfinished in
          becomes.now
          (record { lane = h.lane; entry = h.entry; unfinished = stays; of_item = h.of_item; below = h.below })))
    ]
    all (LaneDone p mark) lets becomes = elim (lanes p) [
      | inl as_before ↦ absurd (becomes.before (subst (λ (l : Lane). ¬ IsBusyBelow l mark) as_before becomes.now))
      | inr there ↦ woken.1 ∙ ap Some (sym there.0)
    ]
    all AllDone lets becomes = woken.2.1 becomes.now

-- ---- what stays unfinished

unfinished-queued : (lane : Lane) (y e : Entry) → IsUnfinishedOn lane e → IsUnfinishedOn (with_queued y lane) e
unfinished-queued lane y e (inl pending) = inl (Contains-append_left lane.pending (y ∷ []) e pending)
unfinished-queued lane y e (inr (c, r, runs, same)) =
    inr (c, r, same_run lane (with_queued y lane).pending c ∙ runs, same)

-- entries of other items stay
unfinished-cancelled : (lane : Lane) (i : ℕ) (e : Entry) → e.item ≢ i → IsUnfinishedOn lane e
    → IsUnfinishedOn (with_cancelled i lane) e
unfinished-cancelled lane i e other (inl pending) =
    let passes : not (eqb e.item i) ≡ true = ap not (ne_eqb e.item i other) in
    inl (Contains-filtered (λ (f : Entry). not (eqb f.item i)) lane.pending e passes pending)
unfinished-cancelled lane i e other (inr (c, r, runs, same)) =
    inr (c, r, same_run lane (with_cancelled i lane).pending c ∙ runs, same)

unfinished-finished : (lane : Lane) (c : ℕ) (r : Running) (e : Entry) → RunsIn lane c r → e.item ≢ r.entry.item
    → IsUnfinishedOn lane e → IsUnfinishedOn (with_finished c lane) e
unfinished-finished lane c r e runs other (inl pending) =
    inl (subst (λ (ps : List Entry). Contains ps e) (sym (pending_kept lane c None)) pending)
unfinished-finished lane c r e runs other (inr (k, x, runs', same)) = elim (cases_run_by lane c None k) [
  | inl as_before ↦ inr (k, x, as_before ∙ runs', same)
  | inr there ↦ absurd (
      let one : x ≡ r = same_running lane c x r (subst (λ (d : ℕ). RunsIn lane d x) there.0 runs') runs in
      other (ap (λ (f : Entry). f.item) (sym same) ∙ ap (λ (y : Running). y.entry.item) one)
      )
]

not_empty : {X : Type 0} (xs : List X) (x : X) → (xs ++ (x ∷ [])) ≢ []
not_empty [] x is = cc
not_empty (y ∷ ys) x is = cc

-- ---- steps

module _ (old new : BookView) (closed : new.closed ≡ old.closed) (sound : IsSoundState old.wiring (state old))
    (wake : Wake) where
  by_queue : (i : ℕ) → state new ≡ effect old.wiring (state old) (QueueStep i)
      → wake ≡ one_context (lane_of old.wiring i) → WakesEnough old new wake
  by_queue i is wakes =
      let q : ℕ = lane_of old.wiring i in
      let own : Lane = lane_at (state old) q in
      let y : Entry = record { number = (state old).next; item = i } in
      let lane : Lane = with_queued y own in
      keeps-all old new closed q lane _ is wake (λ e h. unfinished-queued own y e h)
      (λ p before now. absurd (not_empty own.pending y (ended_here old new closed q lane _ is wake p before now).1))
      (more old new closed q lane _ is wake (startable-queued y own)
      (subst (λ (k : Wake). WakesOne k (Contexts q)) (sym wakes) refl))

  pub by_cancel : (i : ℕ) → state new ≡ effect old.wiring (state old) (CancelStep i)
      → WakesByCancel new (lane_of old.wiring i) i wake → WakesEnough old new wake
  by_cancel i is wakes =
      let q : ℕ = lane_of old.wiring i in
      let own : Lane = lane_at (state old) q in
      let lane : Lane = with_cancelled i own in
      ends-wake old new closed q lane _ is wake i (λ e other h. unfinished-cancelled own i e other h) wakes.1
      (ended old new closed q lane _ is wake wakes.0)
      (fewer old new closed q lane _ is wake (startable-cancelled i own))

  -- what runs begins to wait, or goes on
  by_going_on : (q c : ℕ) (f : Running → Running) → ((r : Running) → (f r).entry ≡ r.entry)
      → state new ≡ with_lane (state old) q
      (with_run_by (lane_at (state old) q) c (option_map f (run_by (lane_at (state old) q) c)))
      → WakesEnough old new wake
  by_going_on q c f keep is =
      let own : Lane = lane_at (state old) q in
      let run = option_map f (run_by own c) in
      let lane : Lane = with_run_by own c run in
      keeps-all old new closed q lane _ is wake (λ e h. unfinished-going_on own c f e keep h)
      (none_ended old new closed q lane _ is wake (pending_kept own c run))
      (fewer old new closed q lane _ is wake (startable-going_on c f own keep))

  by_finish : (q c i : ℕ) → MayDo old.wiring (state old) q c (DoFinish i)
      → state new ≡ done_by (state old) q c (DoFinish i) → WakesByFinish new q i wake → WakesEnough old new wake
  by_finish q c i (r, runs, may) is (pending, waiters) =
      ends-wake old new closed q lane _ is wake i others waiters
      (none_ended old new closed q lane _ is wake (pending_kept own c None)) (one pending)
    where
      own : Lane
      own = lane_at (state old) q

      lane : Lane
      lane = with_finished c own

      others : (e : Entry) → e.item ≢ i → IsUnfinishedOn own e → IsUnfinishedOn lane e
      others e other h = unfinished-finished own c r e runs (λ same. other (same ∙ may.entry)) h

      here : (lane_at (state new) q).pending ≡ own.pending
      here = each_lane old new closed q lane _ is wake (λ a b. b.pending ≡ a.pending) (λ l. refl)
          (pending_kept own c None) q

      one : WakesIfPending new q i wake.contexts
          → (p : ℕ) → WakesOneEach wake p (lane_at (state old) p) (lane_at (state new) p)
      one (inl (there, woken)) =
          more old new closed q lane _ is wake (startable-finished c r own runs (sound.once q))
          (subst (λ (x : WokenContexts). WakesOne (record wake { contexts = x }) (Contexts q)) (sym woken) refl)
      one (inr (none, woken)) =
          fewer old new closed q lane _ is wake (startable-finished_none c r own runs (λ e there of_item.
          let pending = subst (λ (ps : List Entry). Contains ps e) (sym here) there in
          none (record { lane = q; entry = e; pending = pending; of_item = of_item ∙ may.entry })))

  by_deed : (q c : ℕ) (deed : HelpStep) → c ≤ length (lane_at (state old) q).helping
      → MayDo old.wiring (state old) q c deed → state new ≡ done_by (state old) q c deed → WakesByDeed new q deed wake
      → WakesEnough old new wake
  by_deed q c (DoStart i) place may is wakes =
      let own : Lane = lane_at (state old) q in
      let lane : Lane = with_started c i own in
      keeps-all old new closed q lane _ is wake
      (λ e h. unfinished-started own c i e (sound.once q) place may.idle h)
      (ended old new closed q lane _ is wake wakes.0)
      (fewer old new closed q lane _ is wake (startable-started c i own may.idle))
  by_deed q c (DoFinish i) place may is wakes = by_finish q c i may is wakes
  by_deed q c (DoWait b) place may is wakes = by_going_on q c (waiting_for false b (state old).next) (λ r. refl) is
  by_deed q c (DoWaitAll b) place may is wakes = by_going_on q c (waiting_for true b (state old).next) (λ r. refl) is
  by_deed q c deed place may is wakes = by_going_on q c going_on (λ r. refl) is

-- ---- events

module _ (old : BookView) (sound : IsSoundState old.wiring (state old)) (few : old.wiring.helpers ≤ max_helpers) (n : ℕ)
    (wake : Wake) where
  -- the book after an event
  abbrev after : Event → Bool → BookView
  after event said = record old { rows = old.rows ++ (record { event = event; yes = said; number = n } ∷ []) }

  -- the state after the step of the event
  stepped : (event : Event) (said : Bool) (step : Step) → step_of event said ≡ Some step
      → state (after event said) ≡ effect old.wiring (state old) step
  stepped event said step makes =
      state_after-step old.wiring old.rows (record { event = event; yes = said; number = n }) step makes

  by_rescuer : (event : Event) (said : Bool) (q : ℕ) (deed : HelpStep) → MayDo old.wiring (state old) q 0 deed
      → state (after event said) ≡ done_by (state old) q 0 deed → WakesByDeed (after event said) q deed wake
      → WakesEnough old (after event said) wake
  by_rescuer event said q deed may is wakes =
      by_deed old (after event said) refl sound wake q 0 deed (omega arith) may is wakes

  by_event : (event : Event) (said : Bool) → MayCome old.wiring old.rows event said n
      → WakesBy (after event said) event said wake → WakesEnough old (after event said) wake
  by_event (Queue i) true may wakes =
      by_queue old (after (Queue i) true) refl sound wake i (stepped (Queue i) true (QueueStep i) refl) wakes
  by_event (Cancel i) true may wakes =
      by_cancel old (after (Cancel i) true) refl sound wake i (stepped (Cancel i) true (CancelStep i) refl) wakes
  by_event (Start q i) said may wakes =
      by_rescuer (Start q i) said q (DoStart i) (MayStart-first (lane_at (state old) q) i may.1.0)
      (stepped (Start q i) said _ refl) wakes
  by_event (Wait q b) said may wakes =
      by_rescuer (Wait q b) said q (DoWait b) may.1.0 (stepped (Wait q b) said _ refl) wakes
  by_event (Over q b) said may wakes =
      by_rescuer (Over q b) said q (DoOver b) may.1.0 (stepped (Over q b) said _ refl) wakes
  by_event (Finish q i) said may wakes =
      by_rescuer (Finish q i) said q (DoFinish i) may.1.0 (stepped (Finish q i) said _ refl) wakes
  by_event (WaitAll q b) said may wakes =
      by_rescuer (WaitAll q b) said q (DoWaitAll b) may.1.0 (stepped (WaitAll q b) said _ refl) wakes
  by_event (OverAll q b) said may wakes =
      by_rescuer (OverAll q b) said q (DoOverAll b) may.1.0 (stepped (OverAll q b) said _ refl) wakes
  by_event (Help q h deed) said may wakes =
      -- there is a place for each helper
      let has : HasHelper old.wiring q h = may.1.0.0 in
      by_deed old (after (Help q h deed) said) refl sound wake q h deed
      (omega (arith, has.1, helpers_of-few old.wiring q, few, sound.places q)) may.1.0.1
      (stepped (Help q h deed) said _ refl) wakes
  by_event event said may wakes =
      by_none old (after event said) wake refl
      (state_after-none old.wiring old.rows (record { event = event; yes = said; number = n }) refl)

pub event-enough : (old new : BookView) (event : Event) (said : Bool) (n : ℕ) (wake : Wake) → IsBook old
    → old.wiring.helpers ≤ max_helpers → Appends old new event said n → WakesBy new event said wake
    → WakesEnough old new wake
event-enough old new event said n wake book few appends wakes =
    subst (λ (b : BookView). WakesEnough old b wake) (sym appends.is_new)
    (by_event old (IsSoundState-legal old.wiring old.rows book.legal) few n wake event said appends.may
    (subst (λ (b : BookView). WakesBy b event said wake) appends.is_new wakes))

pub closing-enough : (old : BookView) → WakesEnough old (record old { closed = true }) by_closing
closing-enough old = record { all = all; one_each = λ q. inl (omega arith) } where
  all : (c : Condition) → LetsAllGo c → BecomesMet old (record old { closed = true }) c
      → WakesAll by_closing (sleepers_for c)
  all (WorkOn q) lets becomes = absurd lets
  all (EndOf q) lets becomes = tt
  all (ItemDone i mark) lets becomes = absurd (becomes.before becomes.now)
  all (LaneDone q mark) lets becomes = absurd (becomes.before becomes.now)
  all AllDone lets becomes = refl

pub unchanged-enough : (b : BookView) (wake : Wake) → WakesEnough b b wake
unchanged-enough b wake = by_none b b wake refl refl

-- ---- so somebody is woken for each condition that is met now

some-woken : (woken : WokenContexts) (q : ℕ) → WakesContexts woken q → WakesContext woken q
some-woken (AllOf p) q h = h
some-woken Everybody q h = tt
some-woken _ q h = absurd h

pub enough-one : (old new : BookView) (wake : Wake) → WakesEnough old new wake → (c : Condition) → BecomesMet old new c
    → WakesOne wake (sleepers_for c)
enough-one old new wake enough (WorkOn q) becomes = by_next (next_of (lane_at (state old) q)) refl where
  by_count : 1 ≤ startable (lane_at (state new) q) → startable (lane_at (state old) q) ≡ 0 → WakesOne wake (Contexts q)
  by_count some none = elim (enough.one_each q) [
    | inl fewer ↦ absurd (omega (arith, some, none, fewer))
    | inr more ↦ more.1
  ]

  by_next : (o : Option Entry) → next_of (lane_at (state old) q) ≡ o → WakesOne wake (Contexts q)
  by_next None is =
      by_count (startable-some (lane_at (state new) q) becomes.now.0 becomes.now.1)
      (startable-none (lane_at (state old) q) is)
  by_next (Some e) is = absurd (becomes.before (e, is))
enough-one old new wake enough (EndOf q) becomes = some-woken wake.contexts q (enough.all (EndOf q) tt becomes)
enough-one old new wake enough c becomes = enough.all c tt becomes
