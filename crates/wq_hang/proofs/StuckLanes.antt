-- A state that is stuck: on each busy lane that has a rescuer something runs and waits, and what it waits for is unfinished.
use Rattle.std.proofs.Common.{◌≡◌, ◌≢◌, ℕ, zero, suc, ◌+◌, ◌<◌, ◌≤◌, ◌⊎◌, inl, inr, Bool, true, false, eqb, cond, List, [], ◌∷◌, length, get_or, Option, Some, None, refl, sym, ap, subst, ◌∙◌, arith}
use Rattle.std.specs.Prelude.{Contains, find, if◌then◌else◌, ◌||◌}
use Rattle.std.proofs.lemmas.Bool.{cases_Bool, eq-eqb, both_ways}
use Rattle.wq_items.specs.declared.target.Target.{Target}
use Rattle.wq_core.specs.declared.entry.Entry.{Entry}
use Rattle.wq_core.specs.declared.entry.Waiting.{Waiting}
use Rattle.wq_core.specs.declared.entry.Running.{Running}
use Rattle.wq_core.specs.declared.step.Step.{Step}
use Rattle.wq_core.specs.declared.step.Step.TheVariants.{Start}
use Rattle.wq_core.specs.Wiring.{Wiring, HasRescuer, items, lane_of, declared_by}
use Rattle.wq_core.specs.State.{Lane, State, lane_at, run_by, RunsIn, is_running, next_of, pending_of, IsUnfinishedOn, IsBusy}
use Rattle.wq_core.specs.Rules.{IsHeldBack, Lawful, step_in}
use Rattle.wq_core.specs.Runs.{IsForcedStep}
use Rattle.wq_core.specs.Held.{IsSoundState}
use Rattle.wq_core.proofs.Contexts.{none_passes, is_running-some, some-is_running, found-is}
use Rattle.wq_core.proofs.Machines.{unfinished-own_lane}
use Rattle.wq_core.proofs.Safety.{lawful-step_in, forced-step_in, goes_on-or_held_back}
use Rattle.wq_hang.specs.declared.hop.Hop.{Hop}
use Rattle.wq_hang.specs.Walk.{target_beside}
use Rattle.wq_hang.proofs.Weights.{run_weight, helping_weight, helping_weight-has, lane_weight, length-has}

-- ---- what runs on a lane

-- the first that runs something
abbrev pub first_of_helpers : List (Option Running) → Option Running
first_of_helpers [] = None
first_of_helpers (Some r ∷ os) = Some r
first_of_helpers (None ∷ os) = first_of_helpers os

abbrev pub first_or_helpers : Option Running → List (Option Running) → Option Running
first_or_helpers (Some r) os = Some r
first_or_helpers None os = first_of_helpers os

abbrev pub first_run : Lane → Option Running
first_run lane = first_or_helpers lane.running lane.helping

abbrev pub item_run : Option Running → ℕ
item_run None = 0
item_run (Some r) = r.entry.item

-- the item that the first context runs that runs something
abbrev pub item_on : State → ℕ → ℕ
item_on s q = item_run (first_run (lane_at s q))

first_of_helpers-some : (os : List (Option Running)) (h : ℕ) (r : Running) → get_or os h None ≡ Some r → (x : Running) × (first_of_helpers os ≡ Some x)
first_of_helpers-some [] h r is = absurd cc
first_of_helpers-some (Some x ∷ os) h r is = (x, refl)
first_of_helpers-some (None ∷ os) zero r is = absurd cc
first_of_helpers-some (None ∷ os) (suc h) r is = first_of_helpers-some os h r is

first_of_helpers-at : (os : List (Option Running)) (x : Running) → first_of_helpers os ≡ Some x → (h : ℕ) × (get_or os h None ≡ Some x)
first_of_helpers-at [] x is = absurd cc
first_of_helpers-at (Some y ∷ os) x is = (0, is)
first_of_helpers-at (None ∷ os) x is = let later = first_of_helpers-at os x is in (suc later.0, later.1)

pub first_run-some : (lane : Lane) (c : ℕ) (r : Running) → RunsIn lane c r → (x : Running) × (first_run lane ≡ Some x)
first_run-some lane c r runs = by lane.running refl c runs
  where
    by : (o : Option Running) → lane.running ≡ o → (k : ℕ) → run_by lane k ≡ Some r → (x : Running) × (first_or_helpers o lane.helping ≡ Some x)
    by (Some x) is k at = (x, refl)
    by None is zero at = absurd (let never : None ≡ Some r = sym is ∙ at in cc)
    by None is (suc h) at = first_of_helpers-some lane.helping h r at

pub first_run-at : (lane : Lane) (x : Running) → first_run lane ≡ Some x → (c : ℕ) × RunsIn lane c x
first_run-at lane x is = by lane.running refl is
  where
    by : (o : Option Running) → lane.running ≡ o → first_or_helpers o lane.helping ≡ Some x → (c : ℕ) × RunsIn lane c x
    by (Some y) at found = (0, at ∙ found)
    by None at found = let later = first_of_helpers-at lane.helping x found in (suc later.0, later.1)

-- ---- what it weighs

first_of_helpers-weight : (os : List (Option Running)) (x : Running) → first_of_helpers os ≡ Some x → (h : ℕ) (r : Running) → get_or os h None ≡ Some r → r.entry.item ≢ x.entry.item
    → run_weight (Some x) + 1 ≤ helping_weight os
first_of_helpers-weight [] x is h r runs other = absurd cc
first_of_helpers-weight (Some y ∷ os) x is zero r runs other = absurd (let same : Some r ≡ Some x = sym runs ∙ is in other (ap item_run same))
first_of_helpers-weight (Some y ∷ os) x is (suc h) r runs other =
    let later : run_weight (Some r) ≤ helping_weight os = helping_weight-has os h r runs in
    omega (arith, ap run_weight is)
first_of_helpers-weight (None ∷ os) x is zero r runs other = absurd cc
first_of_helpers-weight (None ∷ os) x is (suc h) r runs other = let rest : run_weight (Some x) + 1 ≤ helping_weight os = first_of_helpers-weight os x is h r runs other in omega arith

first_run-weight : (lane : Lane) (x : Running) → first_run lane ≡ Some x → run_weight (Some x) ≤ lane_weight lane
first_run-weight lane x is = by lane.running refl is
  where
    by : (o : Option Running) → lane.running ≡ o → first_or_helpers o lane.helping ≡ Some x → run_weight (Some x) ≤ lane_weight lane
    by (Some y) at found = omega (arith, ap run_weight (at ∙ found))
    by None at found =
        let later = first_of_helpers-at lane.helping x found in
        let le : run_weight (Some x) ≤ helping_weight lane.helping = helping_weight-has lane.helping later.0 x later.1 in
        omega arith

-- another entry weighs something, too
first_run-weight_more : (lane : Lane) (x : Running) (e : Entry) → first_run lane ≡ Some x → IsUnfinishedOn lane e → e.item ≢ x.entry.item → run_weight (Some x) + 1 ≤ lane_weight lane
first_run-weight_more lane x e is left other = by lane.running refl is left
  where
    by : (o : Option Running) → lane.running ≡ o → first_or_helpers o lane.helping ≡ Some x → IsUnfinishedOn lane e → run_weight (Some x) + 1 ≤ lane_weight lane
    by (Some y) at found (inl pending) = let some : 1 ≤ length lane.pending = length-has lane.pending e pending in omega (arith, ap run_weight (at ∙ found))
    by (Some y) at found (inr (zero, r, runs, same)) =
        absurd (let both : Some r ≡ Some x = sym runs ∙ at ∙ found in other (ap (λ (f : Entry). f.item) (sym same) ∙ ap item_run both))
    by (Some y) at found (inr (suc h, r, runs, same)) =
        let later : run_weight (Some r) ≤ helping_weight lane.helping = helping_weight-has lane.helping h r runs in
        omega (arith, ap run_weight (at ∙ found))
    by None at found (inl pending) =
        let some : 1 ≤ length lane.pending = length-has lane.pending e pending in
        let later = first_of_helpers-at lane.helping x found in
        let le : run_weight (Some x) ≤ helping_weight lane.helping = helping_weight-has lane.helping later.0 x later.1 in
        omega arith
    by None at found (inr (zero, r, runs, same)) = absurd (let never : None ≡ Some r = sym at ∙ runs in cc)
    by None at found (inr (suc h, r, runs, same)) =
        let le : run_weight (Some x) + 1 ≤ helping_weight lane.helping = first_of_helpers-weight lane.helping x found h r runs (λ i. other (ap (λ (f : Entry). f.item) (sym same) ∙ i)) in
        omega arith

-- ---- whether something is unfinished

any_helper : (os : List (Option Running)) → ((h : ℕ) × (r : Running) × (get_or os h None ≡ Some r)) ⊎ ((h : ℕ) (r : Running) → ¬ (get_or os h None ≡ Some r))
any_helper [] = inr (λ h r is. cc)
any_helper (Some x ∷ os) = inl (0, x, refl)
any_helper (None ∷ os) = elim (any_helper os) [
  | inl later ↦ inl (suc later.0, later.1, later.2)
  | inr none ↦ inr (none_here none)
]
  where
    none_here : ((h : ℕ) (r : Running) → ¬ (get_or os h None ≡ Some r)) → (h : ℕ) (r : Running) → ¬ (get_or (None ∷ os) h None ≡ Some r)
    none_here none zero r is = cc
    none_here none (suc h) r is = none h r is

cases_runs : (lane : Lane) → ((c : ℕ) × (r : Running) × RunsIn lane c r) ⊎ ((c : ℕ) (r : Running) → ¬ RunsIn lane c r)
cases_runs lane = by lane.running refl
  where
    none : lane.running ≡ None → ((h : ℕ) (r : Running) → ¬ (get_or lane.helping h None ≡ Some r)) → (c : ℕ) (r : Running) → ¬ RunsIn lane c r
    none is helpers zero r runs = let never : None ≡ Some r = sym is ∙ runs in cc
    none is helpers (suc h) r runs = helpers h r runs

    by : (o : Option Running) → lane.running ≡ o → ((c : ℕ) × (r : Running) × RunsIn lane c r) ⊎ ((c : ℕ) (r : Running) → ¬ RunsIn lane c r)
    by (Some r) is = inl (0, r, is)
    by None is = elim (any_helper lane.helping) [
      | inl some ↦ inl (suc some.0, some.1, some.2)
      | inr helpers ↦ inr (none is helpers)
    ]

pub cases_busy : (lane : Lane) → IsBusy lane ⊎ ((e : Entry) → ¬ IsUnfinishedOn lane e)
cases_busy lane = by lane.pending refl
  where
    none : lane.pending ≡ [] → ((c : ℕ) (r : Running) → ¬ RunsIn lane c r) → (e : Entry) → ¬ IsUnfinishedOn lane e
    none is runs e (inl pending) = let some : 1 ≤ length lane.pending = length-has lane.pending e pending in omega (arith, ap (λ (es : List Entry). length es) is)
    none is runs e (inr (c, r, there, same)) = runs c r there

    by : (ps : List Entry) → lane.pending ≡ ps → IsBusy lane ⊎ ((e : Entry) → ¬ IsUnfinishedOn lane e)
    by (e ∷ es) is = inl (e, inl (subst (λ (ps : List Entry). Contains ps e) (sym is) (0, omega arith, refl)))
    by [] is = elim (cases_runs lane) [
      | inl some ↦ inl (some.1.entry, inr (some.0, some.1, some.2, refl))
      | inr runs ↦ inr (none is runs)
    ]

find_none : (ps : List Entry) (i : ℕ) → find (λ (f : Entry). eqb f.item i) ps ≡ None → (e : Entry) → Contains ps e → e.item ≢ i
find_none [] i none e (k, lt, at) same = omega arith
find_none (p ∷ ps) i none e there same = by (λ found later. find_none ps i found e later same) (eqb p.item i) refl none there
  where
    by : (find (λ (f : Entry). eqb f.item i) ps ≡ None → Contains ps e → ⊥) → (b : Bool) → eqb p.item i ≡ b → cond b (Some p) (find (λ (f : Entry). eqb f.item i) ps) ≡ None → Contains (p ∷ ps) e → ⊥
    by rest true is found here = cc
    by rest false is found (zero, lt, at) = both_ways (eqb p.item i) is (eq-eqb p.item i (ap (λ (f : Entry). f.item) at ∙ same))
    by rest false is found (suc k, lt, at) = rest found (k, omega arith, at)

pub cases_unfinished : (lane : Lane) (i : ℕ) → ((e : Entry) × IsUnfinishedOn lane e × (e.item ≡ i)) ⊎ ((e : Entry) → IsUnfinishedOn lane e → e.item ≢ i)
cases_unfinished lane i = by (pending_of lane i) refl
  where
    none : pending_of lane i ≡ None → is_running lane i ≡ false → (e : Entry) → IsUnfinishedOn lane e → e.item ≢ i
    none is idle e (inl pending) same = find_none lane.pending i is e pending same
    none is idle e (inr (c, r, runs, at)) same = both_ways (is_running lane i) idle (some-is_running lane i c r runs (ap (λ (f : Entry). f.item) at ∙ same))

    by : (o : Option Entry) → pending_of lane i ≡ o → ((e : Entry) × IsUnfinishedOn lane e × (e.item ≡ i)) ⊎ ((e : Entry) → IsUnfinishedOn lane e → e.item ≢ i)
    by (Some e) is = let found = found-is lane.pending i e is in inl (e, inl found.0, found.1)
    by None is = elim (cases_Bool (is_running lane i)) [
      | inl runs ↦ (let some = is_running-some lane i runs in inl (some.1.entry, inr (some.0, some.1, some.2, refl), some.3))
      | inr idle ↦ inr (none is idle)
    ]

-- ---- a stuck state

module _ (w : Wiring) (s : State) (sound : IsSoundState w s) (no_step : (step : Step) → IsForcedStep w step → ¬ Lawful w s step) where
  -- something runs on a busy lane, since else its rescuer could start something
  pub runs_on : (q : ℕ) → HasRescuer w q → IsBusy (lane_at s q) → (c : ℕ) × (r : Running) × RunsIn (lane_at s q) c r
  runs_on q rescuer (e, inr (c, r, runs, same)) = (c, r, runs)
  runs_on q rescuer (e, inl pending) = by_next (next_of (lane_at s q)) refl
    where
      by_rescuer : (f : Entry) → next_of (lane_at s q) ≡ Some f → (o : Option Running) → (lane_at s q).running ≡ o → (c : ℕ) × (r : Running) × RunsIn (lane_at s q) c r
      by_rescuer f first (Some r) is = (0, r, is)
      by_rescuer f first None is = absurd (no_step (Start q f.item) rescuer (record { idle = is; entry = f; first = first; of_item = refl }))

      by_next : (o : Option Entry) → next_of (lane_at s q) ≡ o → (c : ℕ) × (r : Running) × RunsIn (lane_at s q) c r
      by_next (Some f) first = by_rescuer f first (lane_at s q).running refl
      by_next None first =
          let some = is_running-some (lane_at s q) e.item (none_passes (lane_at s q).pending (is_running (lane_at s q)) first e pending) in
          (some.0, some.1, some.2)

  -- what holds a wait back is on the lane of its target, and is of the target unless the whole lane is waited for
  abbrev IsLeft : Waiting → Type 0
  IsLeft f = (e : Entry) × IsUnfinishedOn (lane_at s (lane_of w f.target)) e × (f.whole ≡ false → e.item ≡ f.target)

  held_nowhere : (f : Waiting) → (IsLeft f → ⊥) → ¬ IsHeldBack w s f.whole f.target f.mark
  held_nowhere f none = by f.whole refl
    where
      by : (whole : Bool) → f.whole ≡ whole → ¬ IsHeldBack w s whole f.target f.mark
      by false kind h =
          let own = (unfinished-own_lane w s f.target f.mark sound h).1 in
          none (h.entry, subst (λ (p : ℕ). IsUnfinishedOn (lane_at s p) h.entry) own h.unfinished, λ is. h.of_item)
      by true kind h = none (h.entry, h.unfinished, λ is. absurd (both_ways f.whole is kind))

  cases_left : (f : Waiting) → IsLeft f ⊎ (IsLeft f → ⊥)
  cases_left f = by f.whole refl
    where
      by : (whole : Bool) → f.whole ≡ whole → IsLeft f ⊎ (IsLeft f → ⊥)
      by false kind = elim (cases_unfinished (lane_at s (lane_of w f.target)) f.target) [
        | inl some ↦ inl (some.0, some.1, λ is. some.2)
        | inr none ↦ inr (λ left. none left.0 left.1 (left.2 kind))
      ]
      by true kind = elim (cases_busy (lane_at s (lane_of w f.target))) [
        | inl some ↦ inl (some.0, some.1, λ is. absurd (both_ways f.whole is kind))
        | inr none ↦ inr (λ left. none left.0 left.1)
      ]

  -- what runs waits, and something holds its wait back, since else it could go on
  pub waits_for : (q c : ℕ) (r : Running) → RunsIn (lane_at s q) c r → (f : Waiting) × (r.waiting ≡ Some f) × IsLeft f
  waits_for q c r runs = by r.waiting refl
    where
      stays : ((f : Waiting) → r.waiting ≡ Some f → ¬ IsHeldBack w s f.whole f.target f.mark) → ⊥
      stays done =
          let (deed, goes, may) = goes_on-or_held_back w s q c r runs done in
          no_step (step_in q c deed) (forced-step_in w q c deed goes) (lawful-step_in w s q c deed (sound.helpers q c r runs) goes may)

      by : (o : Option Waiting) → r.waiting ≡ o → (f : Waiting) × (r.waiting ≡ Some f) × IsLeft f
      by None is = absurd (stays (λ f waits. absurd (let never : None ≡ Some f = sym is ∙ waits in cc)))
      by (Some f) is = elim (cases_left f) [
        | inl left ↦ (f, is, left)
        | inr none ↦ absurd (stays (λ g waits. held_nowhere g (let both : Some f ≡ Some g = sym is ∙ waits in let same : f ≡ g = cc in subst (λ (x : Waiting). IsLeft x → ⊥) same none)))
      ]

  pub weighs : (r : Running) (f : Waiting) → r.waiting ≡ Some f → run_weight (Some r) ≡ 3
  weighs r f is = omega (arith, ap (λ (o : Option Waiting). run_weight (Some (record r { waiting = o }))) is)

  -- the hop from a busy lane: its item runs there and waits, and what comes next runs on the lane of the target
  pub record IsHopFrom (q : ℕ) (h : Hop) : Type 0 where
    pub item : h.item ≡ item_on s q
    pub declared : Contains (declared_by w h.item) h.flush
    pub own : lane_of w h.item ≡ q
    pub exists : h.item < items w
    pub next : h.next ≡ item_on s (lane_of w h.flush.item)
    pub weighs : 3 ≤ lane_weight (lane_at s q)
    pub busy : IsBusy (lane_at s (lane_of w h.flush.item))
    pub itself : h.flush.whole ≡ false → (e : Entry) × IsUnfinishedOn (lane_at s (lane_of w h.flush.item)) e × (e.item ≡ h.flush.item)

  pub hop_from : (q : ℕ) → HasRescuer w q → IsBusy (lane_at s q) → (h : Hop) × IsHopFrom q h
  hop_from q rescuer busy =
      let runs = runs_on q rescuer busy in
      let first = first_run-some (lane_at s q) runs.0 runs.1 runs.2 in
      let r : Running = first.0 in
      let at = first_run-at (lane_at s q) r first.1 in
      let waits = waits_for q at.0 r at.1 in
      let f : Waiting = waits.0 in
      let own = sound.own_lane q r.entry (inr (at.0, r, at.1, refl)) in
      let by = ((sound.running q at.0 r at.1).waits f waits.1).1 in
      let t : Target = by.1 in
      let item : t.item ≡ f.target = by.4.0 in
      let kind : t.whole ≡ f.whole = by.4.1 in
      let h : Hop = record { item = r.entry.item; flush = t; next = item_on s (lane_of w t.item) } in
      let le : run_weight (Some r) ≤ lane_weight (lane_at s q) = first_run-weight (lane_at s q) r first.1 in
      let three : run_weight (Some r) ≡ 3 = weighs r f waits.1 in
      let left : IsUnfinishedOn (lane_at s (lane_of w t.item)) waits.2.0 = subst (λ (i : ℕ). IsUnfinishedOn (lane_at s (lane_of w i)) waits.2.0) (sym item) waits.2.1 in (
        h,
        record {
          item = sym (ap item_run first.1);
          declared = (by.0, by.2, by.3);
          own = own.1;
          exists = own.0;
          next = refl;
          weighs = omega arith;
          busy = (waits.2.0, left);
          itself = λ one. (waits.2.0, left, waits.2.2 (sym kind ∙ one) ∙ sym item);
        },
      )

  -- what a hop costs, its target's lane weighs
  pub hop-weight : (q : ℕ) (h : Hop) → IsHopFrom q h → HasRescuer w (lane_of w h.flush.item) → 3 + length (target_beside h) ≤ lane_weight (lane_at s (lane_of w h.flush.item))
  hop-weight q h is rescuer =
      let p : ℕ = lane_of w h.flush.item in
      let runs = runs_on p rescuer is.busy in
      let first = first_run-some (lane_at s p) runs.0 runs.1 runs.2 in
      let at = first_run-at (lane_at s p) first.0 first.1 in
      let waits = waits_for p at.0 first.0 at.1 in
      let three : run_weight (Some first.0) ≡ 3 = weighs first.0 waits.0 waits.1 in
      let le : run_weight (Some first.0) ≤ lane_weight (lane_at s p) = first_run-weight (lane_at s p) first.0 first.1 in
      let next : h.next ≡ first.0.entry.item = is.next ∙ ap item_run first.1 in
      by h.flush.whole (eqb h.flush.item h.next) refl refl first.0 first.1 next three le
    where
      by : (whole same : Bool) → h.flush.whole ≡ whole → eqb h.flush.item h.next ≡ same → (x : Running) → first_run (lane_at s (lane_of w h.flush.item)) ≡ Some x → h.next ≡ x.entry.item
          → run_weight (Some x) ≡ 3 → run_weight (Some x) ≤ lane_weight (lane_at s (lane_of w h.flush.item))
          → 3 + length (if whole || same then [] else h.flush.item ∷ []) ≤ lane_weight (lane_at s (lane_of w h.flush.item))
      by true same kind test x first next three le = omega arith
      by false true kind test x first next three le = omega arith
      by false false kind test x first next three le =
          let left = is.itself kind in
          let other : left.0.item ≢ x.entry.item = λ e. both_ways (eqb h.flush.item h.next) test (eq-eqb h.flush.item h.next (sym left.2 ∙ e ∙ sym next)) in
          let more : run_weight (Some x) + 1 ≤ lane_weight (lane_at s (lane_of w h.flush.item)) = first_run-weight_more (lane_at s (lane_of w h.flush.item)) x left.0 first left.1 other in
          omega arith
