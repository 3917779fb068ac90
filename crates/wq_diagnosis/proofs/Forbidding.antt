-- Reasons why a step isn't lawful: they rule it out, and if none holds, it is lawful.
use Rattle.std.proofs.Common.{◌≡◌, ℕ, zero, suc, ◌<◌, ◌≤◌, Bool, true, false, List, [], ◌∷◌, length, Some, None, refl, sym, ap, subst, ◌∙◌, arith}
use Rattle.std.specs.Prelude.{cond, find, not, slice_get}
use Rattle.wq_items.specs.Table.{ItemWaitsBy}
use Rattle.wq_core.specs.declared.entry.Entry.{Entry}
use Rattle.wq_core.specs.declared.entry.Running.{Running}
use Rattle.wq_core.specs.declared.entry.Waiting.{Waiting}
use Rattle.wq_core.specs.declared.step.Step.TheVariants.{Start, Finish}
use Rattle.wq_core.specs.Wiring.{Wiring, declared_by}
use Rattle.wq_core.specs.State.{Lane, State, lane_at, is_running, next_of, Runs, RunsIn}
use Rattle.wq_core.specs.Rules.{IsHeldBack, Lawful, MayBeOver, MayWait, over_of, wait_of}
use Rattle.wq_core.specs.Held.{Machine, IsMachine}
use Rattle.wq_core.proofs.Contexts.{helpers_of-few, is_running-some}
use Rattle.wq_diagnosis.specs.declared.unlawful.Unlawful.{Unlawful}
use Rattle.wq_diagnosis.specs.declared.unlawful.Unlawful.TheVariants as why
use Rattle.wq_diagnosis.specs.Unlawful.{Forbids, ReasonHolds}

-- ---- what a lane runs

runs_nothing : (lane : Lane) (r : Running) → lane.running ≡ None → Runs lane r → ⊥
runs_nothing lane r idle runs = cc

runs_one : (lane : Lane) (r x : Running) → Runs lane r → Runs lane x → x ≡ r
runs_one lane r x runs other = cc

awake_or_not : (r x : Running) (f : Waiting) → x ≡ r → r.waiting ≡ Some f → x.waiting ≡ None → ⊥
awake_or_not r x f same waits awake =
    let both : Some f ≡ None = sym waits ∙ ap (λ (y : Running). y.waiting) (sym same) ∙ awake in
    cc

waits_one : (r x : Running) (f g : Waiting) → x ≡ r → r.waiting ≡ Some f → x.waiting ≡ Some g → f ≡ g
waits_one r x f g same waits other =
    let both : Some f ≡ Some g = sym waits ∙ ap (λ (y : Running). y.waiting) (sym same) ∙ other in
    cc

-- ---- what a lane starts next

none_first : (p : Entry → Bool) (xs : List Entry) (e : Entry) → slice_get xs 0 ≡ None → find p xs ≡ Some e → ⊥
none_first p [] e none found = cc
none_first p (x ∷ xs) e none found = cc

pub found_first : (p : Entry → Bool) (xs : List Entry) (e : Entry) → slice_get xs 0 ≡ Some e → p e ≡ true → find p xs ≡ Some e
found_first p [] e first holds = cc
found_first p (x ∷ xs) e first holds =
    let same : x ≡ e = cc in
    ap (λ b. cond b (Some x) (find p xs)) (ap p same ∙ holds) ∙ first

pub next-first : (lane : Lane) (e : Entry) → slice_get lane.pending 0 ≡ Some e → is_running lane e.item ≡ false → next_of lane ≡ Some e
next-first lane e first free = found_first (λ (f : Entry). not (is_running lane f.item)) lane.pending e first (ap not free)

-- without helpers an idle lane runs no item
no_context : (lane : Lane) (c : ℕ) (r : Running) → c ≤ 0 → lane.running ≡ None → ¬ RunsIn lane c r
no_context lane zero r none idle runs = runs_nothing lane r idle runs
no_context lane (suc c) r none idle runs = omega arith

pub nothing_runs : (m : Machine) (q j : ℕ) → IsMachine m → m.wiring.helpers ≡ 0 → (lane_at m.state q).running ≡ None
    → is_running (lane_at m.state q) j ≡ false
nothing_runs m q j machine alone idle = go (is_running (lane_at m.state q) j) refl
  where
    go : (b : Bool) → is_running (lane_at m.state q) j ≡ b → is_running (lane_at m.state q) j ≡ false
    go false is = is
    go true is =
        let found = is_running-some (lane_at m.state q) j is in
        let below : found.0 ≤ 0 = omega (arith, machine.state.helpers q found.0 found.1 found.2, helpers_of-few m.wiring q, alone) in
        absurd (no_context (lane_at m.state q) found.0 found.1 below idle found.2)

module _ (w : Wiring) (s : State) where
  -- ---- queueings and cancellations

  module _ (q i : ℕ) where
    -- ---- starts

    pub start-runs : (r : Running) → (lane_at s q).running ≡ Some r → Forbids w s (why.Runs r.entry.item) (Start q i)
    start-runs r runs = record {
      holds = (r, (runs, refl));
      rules_out = λ v t held may. runs_nothing (lane_at t q) held.0 may.idle held.1.0;
    }

    pub start-nothing : slice_get (lane_at s q).pending 0 ≡ None → Forbids w s why.NothingPending (Start q i)
    start-nothing none = record {
      holds = none;
      rules_out = λ v t no may. none_first (λ (e : Entry). not (is_running (lane_at t q) e.item)) (lane_at t q).pending may.entry no may.first;
    }

    pub start-first : (e : Entry) → slice_get (lane_at s q).pending 0 ≡ Some e → is_running (lane_at s q) e.item ≡ false
        → (¬ (e.item ≡ i)) → Forbids w s (why.First e.item) (Start q i)
    start-first e first free other = record {
      holds = (e, first, refl, free);
      rules_out = λ v t held may.
          (let next = next-first (lane_at t q) held.0 held.1 (ap (is_running (lane_at t q)) held.2 ∙ held.3) in
          let same : held.0 ≡ may.entry = cc in
          other (sym held.2 ∙ ap (λ (f : Entry). f.item) same ∙ may.of_item));
    }

    -- ---- finishes

    pub finish-nothing : (lane_at s q).running ≡ None → Forbids w s why.NothingRuns (Finish q i)
    finish-nothing idle = record { holds = idle; rules_out = λ v t none may. runs_nothing (lane_at t q) may.0 none may.1 }

    pub finish-runs : (r : Running) → (lane_at s q).running ≡ Some r → (¬ (r.entry.item ≡ i)) → Forbids w s (why.Runs r.entry.item) (Finish q i)
    finish-runs r runs other = record {
      holds = (r, (runs, refl));
      rules_out = λ v t held may.
          (let same = runs_one (lane_at t q) held.0 may.0 held.1.0 may.1 in
          other (sym held.1.1 ∙ ap (λ (x : Running). x.entry.item) (sym same) ∙ may.2.entry));
    }

    pub finish-waits : (r : Running) (f : Waiting) → (lane_at s q).running ≡ Some r → r.waiting ≡ Some f
        → Forbids w s (why.Waits r.entry.item f) (Finish q i)
    finish-waits r f runs waits = record {
      holds = (r, (runs, refl), waits);
      rules_out = λ v t held may.
          awake_or_not held.0 may.0 f (runs_one (lane_at t q) held.0 may.0 held.1.0 may.1) held.2 may.2.awake;
    }

-- ---- waits of an item, or of its whole workqueue

abbrev MayBegin : Bool → ℕ → ℕ → Wiring → State → Type 0
MayBegin whole q b v t = (r : Running) × Runs (lane_at t q) r × MayWait v whole b r

abbrev MayEnd : Bool → ℕ → ℕ → Wiring → State → Type 0
MayEnd whole q b v t = (r : Running) × Runs (lane_at t q) r × MayBeOver v t whole b r

lawful_wait : (whole : Bool) (q b : ℕ) (w : Wiring) (s : State) → MayBegin whole q b w s → Lawful w s (wait_of whole q b)
lawful_wait true q b w s may = may
lawful_wait false q b w s may = may

lawful_over : (whole : Bool) (q b : ℕ) (w : Wiring) (s : State) → MayEnd whole q b w s → Lawful w s (over_of whole q b)
lawful_over true q b w s may = may
lawful_over false q b w s may = may

forbids_wait : (whole : Bool) (q b : ℕ) (w : Wiring) (s : State) (reason : Unlawful) → ReasonHolds w s q b reason
    → ((v : Wiring) (t : State) → ReasonHolds v t q b reason → ¬ MayBegin whole q b v t) → Forbids w s reason (wait_of whole q b)
forbids_wait true q b w s reason holds never = record { holds = holds; rules_out = never }
forbids_wait false q b w s reason holds never = record { holds = holds; rules_out = never }

forbids_over : (whole : Bool) (q b : ℕ) (w : Wiring) (s : State) (reason : Unlawful) → ReasonHolds w s q b reason
    → ((v : Wiring) (t : State) → ReasonHolds v t q b reason → ¬ MayEnd whole q b v t) → Forbids w s reason (over_of whole q b)
forbids_over true q b w s reason holds never = record { holds = holds; rules_out = never }
forbids_over false q b w s reason holds never = record { holds = holds; rules_out = never }

module _ (w : Wiring) (s : State) (whole : Bool) (q b : ℕ) where
  module _ (r : Running) (runs : (lane_at s q).running ≡ Some r) where
    -- ---- a wait begins

    pub wait-waits : (f : Waiting) → r.waiting ≡ Some f → Forbids w s (why.Waits r.entry.item f) (wait_of whole q b)
    wait-waits f waits =
        forbids_wait whole q b w s (why.Waits r.entry.item f) (r, (runs, refl), waits) (λ v t held may.
        awake_or_not held.0 may.0 f (runs_one (lane_at t q) held.0 may.0 held.1.0 may.1) held.2 may.2.awake)

    pub wait-undeclared : (¬ ItemWaitsBy w.waits whole r.entry.item b) → Forbids w s (why.Undeclared r.entry.item whole) (wait_of whole q b)
    wait-undeclared none =
        forbids_wait whole q b w s (why.Undeclared r.entry.item whole) (r, (runs, refl), none) (λ v t held may.
        (let same = runs_one (lane_at t q) held.0 may.0 held.1.0 may.1 in
        let item : may.0.entry.item ≡ r.entry.item = ap (λ (x : Running). x.entry.item) same ∙ held.1.1 in
        held.2 (subst (λ (i : ℕ). ItemWaitsBy v.waits whole i b) item may.2.declared)))

    pub wait-all_made : (¬ (r.made < length (declared_by w r.entry.item))) → Forbids w s (why.AllMade r.entry.item) (wait_of whole q b)
    wait-all_made none =
        forbids_wait whole q b w s (why.AllMade r.entry.item) (r, (runs, refl), none) (λ v t held may.
        (let same = runs_one (lane_at t q) held.0 may.0 held.1.0 may.1 in
        let fewer : held.0.made < length (declared_by v held.0.entry.item) =
        subst (λ (x : Running). x.made < length (declared_by v x.entry.item)) same may.2.fewer in
        held.2 (subst (λ (i : ℕ). held.0.made < length (declared_by v i)) held.1.1 fewer)))

    pub wait-lawful : r.waiting ≡ None → ItemWaitsBy w.waits whole r.entry.item b → r.made < length (declared_by w r.entry.item)
        → Lawful w s (wait_of whole q b)
    wait-lawful awake declared fewer =
        lawful_wait whole q b w s (r, runs, record { awake = awake; declared = declared; fewer = fewer })

    -- ---- a wait ends

    pub over-awake : r.waiting ≡ None → Forbids w s (why.Awake r.entry.item) (over_of whole q b)
    over-awake awake =
        forbids_over whole q b w s (why.Awake r.entry.item) (r, (runs, refl), awake) (λ v t held may.
        (let same = runs_one (lane_at t q) held.0 may.0 held.1.0 may.1 in
        awake_or_not may.0 held.0 may.2.flush (sym same) may.2.waits held.2))

    module _ (f : Waiting) (waits : r.waiting ≡ Some f) where
      pub over-waits : (¬ ((f.whole ≡ whole) × (f.target ≡ b))) → Forbids w s (why.Waits r.entry.item f) (over_of whole q b)
      over-waits other =
          forbids_over whole q b w s (why.Waits r.entry.item f) (r, (runs, refl), waits) (λ v t held may.
          (let same = waits_one held.0 may.0 f may.2.flush (runs_one (lane_at t q) held.0 may.0 held.1.0 may.1) held.2 may.2.waits in
          other (ap (λ (g : Waiting). g.whole) same ∙ may.2.kind, ap (λ (g : Waiting). g.target) same ∙ may.2.target)))

      pub over-unfinished : f.whole ≡ whole → IsHeldBack w s whole b f.mark → Forbids w s (why.Unfinished whole) (over_of whole q b)
      over-unfinished kind back =
          forbids_over whole q b w s (why.Unfinished whole) (r, runs, (f, waits, kind, back)) (λ v t held may.
          (let same = waits_one held.0 may.0 held.2.0 may.2.flush (runs_one (lane_at t q) held.0 may.0 held.1 may.1) held.2.1 may.2.waits in
          may.2.done (subst (λ (g : Waiting). IsHeldBack v t whole b g.mark) same held.2.3)))

      pub over-lawful : f.whole ≡ whole → f.target ≡ b → (¬ IsHeldBack w s whole b f.mark) → Lawful w s (over_of whole q b)
      over-lawful kind target done =
          lawful_over whole q b w s (r, runs, record { flush = f; waits = waits; kind = kind; target = target; done = done })
