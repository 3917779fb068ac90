-- Items that hold one another up never finish, as long as their lanes flush as declared.
use Rattle.std.proofs.Common.{◌≡◌, ◌≢◌, ℕ, not, eqb, ◌+◌, ◌<◌, ◌≤◌, ◌⊎◌, inl, inr, List, length, Some, None, refl, sym, ap, subst, ◌∙◌, arith, Bool, true, false}
use Rattle.std.specs.Prelude.{AllPairs, Contains, slice_get, option_map, find}
use Rattle.std.proofs.lemmas.Bool.{cases_lt, cases_eq, ne_eqb}
use Rattle.std.proofs.lemmas.Option.{slice_get_within}
use Rattle.wq_items.specs.declared.target.Target.{Target}
use Rattle.wq_items.proofs.Lists.{Contains-filtered}
use Rattle.wq_core.specs.declared.entry.Entry.{Entry}
use Rattle.wq_core.specs.declared.entry.Waiting.{Waiting}
use Rattle.wq_core.specs.declared.entry.Running.{Running}
use Rattle.wq_core.specs.declared.step.Step.{Step}
use Rattle.wq_core.specs.declared.step.Step.TheVariants.{Queue, Cancel, Start, Wait, Over, WaitAll, OverAll, Finish, Help}
use Rattle.wq_core.specs.Wiring.{Wiring, HasRescuer, items, lane_of, declared_by}
use Rattle.wq_core.specs.State.{Lane, State, lane_at, with_lane, run_by, with_run_by, pending_of, Runs, IsUnfinishedOn}
use Rattle.wq_core.specs.Runs.{IsNextWait}
use Rattle.wq_core.specs.Rules.{IsHeldBack, MayWait, MayBeOver, MayStartFirst, MayFinish, begun, waiting_for, going_on, with_cancelled, with_started, with_wait, with_over, with_finished, effect}
use Rattle.wq_core.specs.Held.{IsSoundState}
use Rattle.wq_core.specs.Played.{IsDeclaredStep}
use Rattle.wq_core.proofs.Contexts.{cases_run_by, run_by_same, pending_kept, same_run, found-pending, MayStart-first}
use Rattle.wq_core.proofs.LaneLemmas.{cases_with_lane, same_running, nothing_runs}
use Rattle.wq_core.proofs.Rising.{found-one}

-- ---- what stays unfinished on a lane

-- where the lane has a place for the context
pub unfinished-started : (lane : Lane) (c i : ℕ) (e : Entry) → AllPairs (λ (f g : Entry). f.item ≢ g.item) lane.pending → c ≤ length lane.helping → run_by lane c ≡ None → IsUnfinishedOn lane e → IsUnfinishedOn (with_started c i lane) e
unfinished-started lane c i e once place idle h = elim h [
  | inl pending ↦ elim (cases_eq e.item i) [
    | inl same ↦ (
        let at : pending_of lane i ≡ Some e = subst (λ j. find (λ (f : Entry). eqb f.item j) lane.pending ≡ Some e) same (found-one lane.pending e once pending) in
        inr (c, begun e, run_by_same rest c (option_map begun (pending_of lane i)) place ∙ ap (option_map begun) at, refl)
        )
    | inr other ↦ (
        let passes : not (eqb e.item i) ≡ true = ap not (ne_eqb e.item i other) in
        let stays : Contains rest.pending e = Contains-filtered (λ (f : Entry). not (eqb f.item i)) lane.pending e passes pending in
        inl (subst (λ (ps : List Entry). Contains ps e) (sym (pending_kept rest c (option_map begun (pending_of lane i)))) stays)
        )
  ]
  | inr (k, r, runs, same) ↦ elim (cases_run_by rest c (option_map begun (pending_of lane i)) k) [
    | inl as_before ↦ inr (k, r, as_before ∙ same_run lane rest.pending k ∙ runs, same)
    | inr there ↦ absurd (let never : None ≡ Some r = sym idle ∙ ap (λ j. run_by lane j) (sym there.0) ∙ runs in cc)
  ]
]
  where
    rest : Lane
    rest = with_cancelled i lane

pub unfinished-going_on : (lane : Lane) (c : ℕ) (f : Running → Running) (e : Entry) → ((r : Running) → (f r).entry ≡ r.entry) → IsUnfinishedOn lane e
    → IsUnfinishedOn (with_run_by lane c (option_map f (run_by lane c))) e
unfinished-going_on lane c f e keeps h = elim h [
  | inl pending ↦ inl (subst (λ (ps : List Entry). Contains ps e) (sym (pending_kept lane c (option_map f (run_by lane c)))) pending)
  | inr (k, r, runs, same) ↦ elim (cases_run_by lane c (option_map f (run_by lane c)) k) [
    | inl as_before ↦ inr (k, r, as_before ∙ runs, same)
    | inr there ↦ inr (k, f r, there.1 ∙ ap (option_map f) (ap (λ j. run_by lane j) (sym there.0) ∙ runs), keeps r ∙ same)
  ]
]

-- ---- one lane

-- the running entry is in its wait for t, which it began as the one after `place` others, with a mark of n or more
pub record IsInWait (place : ℕ) (t : Target) (n : ℕ) (r : Running) : Type 0 where
  pub made : r.made ≡ place + 1
  pub flush : Waiting
  pub waits : r.waiting ≡ Some flush
  pub kind : flush.whole ≡ t.whole
  pub target : flush.target ≡ t.item
  pub mark : n ≤ flush.mark

-- for the lane of item m: each of its items has an unfinished entry with a number below n, and its rescuer starts m next, or
-- runs it and isn't past the wait at `place`, which is for t
pub record IsHeldUp (w : Wiring) (n m place : ℕ) (t : Target) (lane : Lane) : Type 0 where
  pub unfinished : (j : ℕ) → j < items w → lane_of w j ≡ lane_of w m → (e : Entry) × IsUnfinishedOn lane e × (e.item ≡ j) × (e.number < n)
  pub turn : MayStartFirst lane m ⊎ ((r : Running) × Runs lane r × (r.entry.item ≡ m) × ((r.made ≤ place) ⊎ IsInWait place t n r))

module _ (w : Wiring) (n m place : ℕ) (t : Target) (lane : Lane) (held : IsHeldUp w n m place t lane) where
  IsHeldUp-later : (new : Lane) → ((e : Entry) → IsUnfinishedOn lane e → IsUnfinishedOn new e)
      → MayStartFirst new m ⊎ ((r : Running) × Runs new r × (r.entry.item ≡ m) × ((r.made ≤ place) ⊎ IsInWait place t n r)) → IsHeldUp w n m place t new
  IsHeldUp-later new stays turn = record {
    unfinished = λ j below same. let u = held.unfinished j below same in (u.0, stays u.0 u.1, u.2, u.3);
    turn = turn;
  }

  -- what runs is an entry of m
  m_runs : (r : Running) → Runs lane r → (r.entry.item ≡ m) × ((r.made ≤ place) ⊎ IsInWait place t n r)
  m_runs r runs = elim held.turn [
    | inl may ↦ absurd (let never : None ≡ Some r = sym may.idle ∙ runs in cc)
    | inr (x, other, item, past) ↦ subst (λ (y : Running). (y.entry.item ≡ m) × ((y.made ≤ place) ⊎ IsInWait place t n y)) (same_running lane 0 x r other runs) (item, past)
  ]

  IsHeldUp-started : (i : ℕ) → MayStartFirst lane i → AllPairs (λ (f g : Entry). f.item ≢ g.item) lane.pending → IsHeldUp w n m place t (with_started 0 i lane)
  IsHeldUp-started i may once = elim held.turn [
    | inl first ↦ IsHeldUp-later (with_started 0 i lane) (λ e h. unfinished-started lane 0 i e once (omega arith) may.idle h) (inr (started first))
    | inr (r, runs, item, past) ↦ absurd (let never : None ≡ Some r = sym may.idle ∙ runs in cc)
  ]
    where
      started : MayStartFirst lane m → (r : Running) × Runs (with_started 0 i lane) r × (r.entry.item ≡ m) × ((r.made ≤ place) ⊎ IsInWait place t n r)
      started first =
          let both : Some may.entry ≡ Some first.entry = sym may.first ∙ first.first in
          let same : may.entry ≡ first.entry = cc in
          let item : i ≡ m = sym may.of_item ∙ ap (λ (e : Entry). e.item) same ∙ first.of_item in
          let start = MayStart-first lane i may in
          let found = found-pending lane.pending i start.entry start.pending start.of_item in
          (begun found.0, ap (option_map begun) found.1, found.3 ∙ item, inl (omega arith))

  IsHeldUp-waiting : (whole : Bool) (b : ℕ) (r : Running) → Runs lane r → MayWait w whole b r → (u : Target) → slice_get (declared_by w r.entry.item) r.made ≡ Some u → u.item ≡ b → u.whole ≡ whole
      → slice_get (declared_by w m) place ≡ Some t → IsHeldUp w n m place t (with_wait 0 whole b n lane)
  IsHeldUp-waiting whole b r runs may u next is kind declares =
      let own = m_runs r runs in
      IsHeldUp-later (with_wait 0 whole b n lane) (λ e h. unfinished-going_on lane 0 (waiting_for whole b n) e (λ x. refl) h)
      (inr (waiting_for whole b n r, ap (option_map (waiting_for whole b n)) runs, own.0, waits_now own.0 own.1))
    where
      here : r.entry.item ≡ m → r.made ≡ place → (t.item ≡ b) × (t.whole ≡ whole)
      here item at =
          let there : slice_get (declared_by w m) place ≡ Some u = subst (λ (k : ℕ). slice_get (declared_by w m) k ≡ Some u) at (subst (λ (i : ℕ). slice_get (declared_by w i) r.made ≡ Some u) item next) in
          let both : Some t ≡ Some u = sym declares ∙ there in
          let same : t ≡ u = cc in
          (ap (λ (x : Target). x.item) same ∙ is, ap (λ (x : Target). x.whole) same ∙ kind)

      waits_now : r.entry.item ≡ m → (r.made ≤ place) ⊎ IsInWait place t n r → (r.made + 1 ≤ place) ⊎ IsInWait place t n (waiting_for whole b n r)
      waits_now item (inl le) = elim (cases_lt r.made place) [
        | inl before ↦ inl (omega arith)
        | inr past ↦ (
            let at : r.made ≡ place = omega arith in
            inr (record { made = omega arith; flush = record { target = b; whole = whole; mark = n }; waits = refl; kind = sym (here item at).1; target = sym (here item at).0; mark = omega arith })
            )
      ]
      waits_now item (inr wait) = absurd (let never : None ≡ Some wait.flush = sym may.awake ∙ wait.waits in cc)

  IsHeldUp-over : (r : Running) → Runs lane r → (¬ IsInWait place t n r) → IsHeldUp w n m place t (with_over 0 lane)
  IsHeldUp-over r runs not_it =
      let own = m_runs r runs in
      IsHeldUp-later (with_over 0 lane) (λ e h. unfinished-going_on lane 0 going_on e (λ x. refl) h)
      (inr (going_on r, ap (option_map going_on) runs, own.0, elim own.1 [ inl le ↦ inl le | inr wait ↦ absurd (not_it wait) ]))

  -- it isn't past its wait, so it doesn't finish
  IsHeldUp-finished : (r : Running) → Runs lane r → r.waiting ≡ None → r.made ≡ length (declared_by w r.entry.item) → slice_get (declared_by w m) place ≡ Some t → ⊥
  IsHeldUp-finished r runs awake all declares =
      let own = m_runs r runs in
      elim own.1 [
        | inl le ↦ (
            let within : place < length (declared_by w m) = slice_get_within (declared_by w m) place t declares in
            let size : length (declared_by w r.entry.item) ≡ length (declared_by w m) = ap (λ (i : ℕ). length (declared_by w i)) own.0 in
            omega arith
            )
        | inr wait ↦ (let never : None ≡ Some wait.flush = sym awake ∙ wait.waits in cc)
      ]

-- ---- states

-- members m, each with a place at which it declares a flush of t, which is an item on the lane of a member or on a bare lane
pub record AreMembers (w : Wiring) (Member : ℕ → ℕ → Target → Type 0) : Type 0 where
  pub declares : (m place : ℕ) (t : Target) → Member m place t → slice_get (declared_by w m) place ≡ Some t
  pub among : (m place : ℕ) (t : Target) → Member m place t
      → ((k p : ℕ) × (u : Target) × Member k p u × (lane_of w t.item ≡ lane_of w k)) ⊎ (¬ HasRescuer w (lane_of w t.item))
  pub below : (m place : ℕ) (t : Target) → Member m place t → t.item < items w

-- no rescuer comes to this lane: its rescuer's place is empty, and each of its items is pending with a number below n
pub record IsAsleep (w : Wiring) (n q : ℕ) (lane : Lane) : Type 0 where
  pub idle : lane.running ≡ None
  pub pending : (j : ℕ) → j < items w → lane_of w j ≡ q → (e : Entry) × Contains lane.pending e × (e.item ≡ j) × (e.number < n)

-- the lanes of all members are held up, and bare lanes are asleep
pub record AreHeldUp (w : Wiring) (Member : ℕ → ℕ → Target → Type 0) (s : State) : Type 0 where
  pub up : (m place : ℕ) (t : Target) → Member m place t → IsHeldUp w s.next m place t (lane_at s (lane_of w m))
  pub asleep : (q : ℕ) → (¬ HasRescuer w q) → IsAsleep w s.next q (lane_at s q)

module _ (w : Wiring) (Member : ℕ → ℕ → Target → Type 0) (members : AreMembers w Member) where
  AreHeldUp-with_lane : (s : State) (q : ℕ) (lane : Lane) → AreHeldUp w Member s → ((lane_at s q).running ≡ None → HasRescuer w q)
      → ((m place : ℕ) (t : Target) → Member m place t → IsHeldUp w s.next m place t (lane_at s q) → IsHeldUp w s.next m place t lane) → AreHeldUp w Member (with_lane s q lane)
  AreHeldUp-with_lane s q lane held awake keeps = record { up = up; asleep = asleep }
    where
      up : (m place : ℕ) (t : Target) → Member m place t → IsHeldUp w s.next m place t (lane_at (with_lane s q lane) (lane_of w m))
      up m place t member = elim (cases_with_lane s q lane (lane_of w m)) [
        | inl same ↦ subst (IsHeldUp w s.next m place t) (sym same) (held.up m place t member)
        | inr there ↦ (
            let before : IsHeldUp w s.next m place t (lane_at s q) = subst (λ (p : ℕ). IsHeldUp w s.next m place t (lane_at s p)) there.0 (held.up m place t member) in
            subst (IsHeldUp w s.next m place t) (sym there.1) (keeps m place t member before)
            )
      ]

      asleep : (p : ℕ) → (¬ HasRescuer w p) → IsAsleep w s.next p (lane_at (with_lane s q lane) p)
      asleep p bare = elim (cases_with_lane s q lane p) [
        | inl same ↦ subst (IsAsleep w s.next p) (sym same) (held.asleep p bare)
        | inr there ↦ absurd (
            let idle : (lane_at s q).running ≡ None = subst (λ (k : ℕ). (lane_at s k).running ≡ None) there.0 (held.asleep p bare).idle in
            bare (subst (HasRescuer w) (sym there.0) (awake idle))
            )
      ]

  -- the target of a member's wait is unfinished
  target_left : (s : State) → AreHeldUp w Member s → (m place : ℕ) (t : Target) → Member m place t → (r : Running) → IsInWait place t s.next r
      → (whole : Bool) (b : ℕ) → MayBeOver w s whole b r → ⊥
  target_left s held m place t member r wait whole b may =
      let left = by_lane (members.among m place t member) in
      let both : Some wait.flush ≡ Some may.flush = sym wait.waits ∙ may.waits in
      let same : wait.flush ≡ may.flush = cc in
      let item : left.0.item ≡ b = left.2 ∙ sym wait.target ∙ ap (λ (f : Waiting). f.target) same ∙ may.target in
      let mark : wait.flush.mark ≡ may.flush.mark = ap (λ (f : Waiting). f.mark) same in
      let least : s.next ≤ wait.flush.mark = wait.mark in
      let given : left.0.number < s.next = left.3 in
      let own : lane_of w t.item ≡ lane_of w b = ap (lane_of w) (sym left.2) ∙ ap (lane_of w) item in
      may.done (held_back whole (lane_of w t.item) left.0 left.1 item own (omega arith))
    where
      -- its entry, on the lane of a member or on a bare lane
      by_lane : ((k p : ℕ) × (u : Target) × Member k p u × (lane_of w t.item ≡ lane_of w k)) ⊎ (¬ HasRescuer w (lane_of w t.item))
          → (e : Entry) × IsUnfinishedOn (lane_at s (lane_of w t.item)) e × (e.item ≡ t.item) × (e.number < s.next)
      by_lane (inl other) =
          let e = (held.up other.0 other.1 other.2 other.3).unfinished t.item (members.below m place t member) other.4 in
          (e.0, subst (λ (q : ℕ). IsUnfinishedOn (lane_at s q) e.0) (sym other.4) e.1, e.2, e.3)
      by_lane (inr bare) =
          let e = (held.asleep (lane_of w t.item) bare).pending t.item (members.below m place t member) refl in
          (e.0, inl e.1, e.2, e.3)

      -- an entry of the target holds back a wait of either kind
      held_back : (kind : Bool) (q : ℕ) (e : Entry) → IsUnfinishedOn (lane_at s q) e → e.item ≡ b → q ≡ lane_of w b → e.number < may.flush.mark → IsHeldBack w s kind b may.flush.mark
      held_back false q e unfinished of_item on below = record { lane = q; entry = e; unfinished = unfinished; of_item = of_item; below = below }
      held_back true q e unfinished of_item on below = record { entry = e; unfinished = subst (λ (p : ℕ). IsUnfinishedOn (lane_at s p) e) on unfinished; below = below }

  -- what a rescuer runs isn't on a lane that is asleep
  runs_awake : (s : State) (p : ℕ) (r : Running) → Runs (lane_at s p) r → (lane_at s p).running ≡ None → HasRescuer w p
  runs_awake s p r runs idle = absurd (nothing_runs (lane_at s p) 0 idle r runs)

  AreHeldUp-waiting : (s : State) (p : ℕ) (whole : Bool) (b : ℕ) → AreHeldUp w Member s → (r : Running) → Runs (lane_at s p) r → MayWait w whole b r → IsNextWait w s p 0 whole b
      → AreHeldUp w Member (with_lane s p (with_wait 0 whole b s.next (lane_at s p)))
  AreHeldUp-waiting s p whole b held r runs may (x, other, next) =
      let in_turn : (u : Target) × (slice_get (declared_by w r.entry.item) r.made ≡ Some u) × (u.item ≡ b) × (u.whole ≡ whole) =
      subst (λ (y : Running). (u : Target) × (slice_get (declared_by w y.entry.item) y.made ≡ Some u) × (u.item ≡ b) × (u.whole ≡ whole)) (same_running (lane_at s p) 0 x r other runs) next in
      AreHeldUp-with_lane s p (with_wait 0 whole b s.next (lane_at s p)) held (runs_awake s p r runs) (λ m place t member here.
      IsHeldUp-waiting w s.next m place t (lane_at s p) here whole b r runs may in_turn.0 in_turn.1 in_turn.2 in_turn.3 (members.declares m place t member)
      )

  AreHeldUp-over : (s : State) (p : ℕ) (whole : Bool) (b : ℕ) → AreHeldUp w Member s → (r : Running) → Runs (lane_at s p) r → MayBeOver w s whole b r
      → AreHeldUp w Member (with_lane s p (with_over 0 (lane_at s p)))
  AreHeldUp-over s p whole b held r runs may =
      AreHeldUp-with_lane s p (with_over 0 (lane_at s p)) held (runs_awake s p r runs) (λ m place t member here.
      IsHeldUp-over w s.next m place t (lane_at s p) here r runs (λ wait. target_left s held m place t member r wait whole b may)
      )

  pub AreHeldUp-effect : (s : State) (q : ℕ) (step : Step) → IsSoundState w s → AreHeldUp w Member s → IsDeclaredStep w s q step → AreHeldUp w Member (effect w s step)
  AreHeldUp-effect s q (Queue i) sound held is = absurd is.of_lane
  AreHeldUp-effect s q (Cancel i) sound held is = absurd is.of_lane
  AreHeldUp-effect s q (Start p i) sound held is =
      AreHeldUp-with_lane s p (with_started 0 i (lane_at s p)) held (λ idle. is.forced) (λ m place t member here. IsHeldUp-started w s.next m place t (lane_at s p) here i is.lawful (sound.once p))
  AreHeldUp-effect s q (Wait p b) sound held is = AreHeldUp-waiting s p false b held is.lawful.0 is.lawful.1 is.lawful.2 is.in_order
  AreHeldUp-effect s q (WaitAll p b) sound held is = AreHeldUp-waiting s p true b held is.lawful.0 is.lawful.1 is.lawful.2 is.in_order
  AreHeldUp-effect s q (Over p b) sound held is = AreHeldUp-over s p false b held is.lawful.0 is.lawful.1 is.lawful.2
  AreHeldUp-effect s q (OverAll p b) sound held is = AreHeldUp-over s p true b held is.lawful.0 is.lawful.1 is.lawful.2
  AreHeldUp-effect s q (Help p h deed) sound held is = absurd is.of_lane
  AreHeldUp-effect s q (Finish p i) sound held is = finishing is.lawful.0 is.lawful.1 is.lawful.2 is.in_order.0 is.in_order.1 is.in_order.2
    where
      finishing : (r : Running) → Runs (lane_at s p) r → MayFinish i r → (x : Running) → Runs (lane_at s p) x → x.made ≡ length (declared_by w x.entry.item)
          → AreHeldUp w Member (effect w s (Finish p i))
      finishing r runs may x other all =
          let made : r.made ≡ length (declared_by w r.entry.item) = subst (λ (y : Running). y.made ≡ length (declared_by w y.entry.item)) (same_running (lane_at s p) 0 x r other runs) all in
          AreHeldUp-with_lane s p (with_finished 0 (lane_at s p)) held (runs_awake s p r runs) (λ m place t member here.
          absurd (IsHeldUp-finished w s.next m place t (lane_at s p) here r runs may.awake made (members.declares m place t member))
          )
