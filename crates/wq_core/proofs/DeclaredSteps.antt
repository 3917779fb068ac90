-- Which steps a lane can make, and which of them if its executions flush as declared.
use Rattle.std.proofs.Common.{◌≡◌, ℕ, ◌<◌, ◌≤◌, inl, inr, ◌↔◌, Bool, true, false, not, List, length, Option, Some, None, refl, sym, ap, subst, ◌∙◌, arith}
use Rattle.std.specs.Prelude.{slice_get, is_some, IsTrue, IfSome, IfNone}
use Rattle.std.proofs.lemmas.Option.{slice_get_within, slice_get_past, slice_get_cases, get_or_from_slice_get}
use Rattle.wq_items.specs.declared.target.Target.{Target}
use Rattle.wq_items.specs.Table.{ItemWaitsBy}
use Rattle.wq_core.specs.declared.entry.Entry.{Entry}
use Rattle.wq_core.specs.declared.entry.Waiting.{Waiting}
use Rattle.wq_core.specs.declared.entry.Running.{Running}
use Rattle.wq_core.specs.declared.step.Step.{Step}
use Rattle.wq_core.specs.declared.step.Step.TheVariants.{Queue, Cancel, Start, Wait, Over, WaitAll, OverAll, Finish, Help}
use Rattle.wq_core.specs.declared.step.HelpStep.TheVariants.{Start as DoStart, Wait as DoWait, WaitAll as DoWaitAll, Over as DoOver, OverAll as DoOverAll, Finish as DoFinish}
use Rattle.wq_core.specs.Wiring.{Wiring, HasRescuer, HasHelper, declared_by}
use Rattle.wq_core.specs.State.{Lane, State, lane_at, run_by, RunsIn, Runs, next_of}
use Rattle.wq_core.specs.Rules.{IsHeldBack, MayStartFirst, MayBeOver, Lawful, wait_of, over_of}
use Rattle.wq_core.specs.Runs.{IsForcedStep, KeepsOrder}
use Rattle.wq_core.specs.Held.{IsSoundRunning, IsSoundState}
use Rattle.wq_core.specs.Played.{IsStepOfLane, RescuerCanMove, HelperGoesOn, CanMove, IsDeclaredStep, HasNoDeclaredStep}
use Rattle.wq_core.proofs.WaitSteps.{waits-lawful, lawful-waits, goes_on-lawful, lawful-goes_on, next-in_order, in_order-next, in_order-goes_on, of_lane-wait_of, of_lane-over_of, forced-wait_of, forced-over_of}
use Rattle.wq_core.proofs.Contexts.{MayStart-first}
use Rattle.wq_core.proofs.LaneLemmas.{same_running, nothing_runs, runs_within, starts_within}

-- ---- steps of a lane

-- what holds for each kind of step of lane q holds for all its steps
by_kind : (q : ℕ) (P : Step → Type 0) → ((i : ℕ) → P (Start q i)) → ((whole : Bool) (b : ℕ) → P (wait_of whole q b)) → ((whole : Bool) (b : ℕ) → P (over_of whole q b))
    → ((i : ℕ) → P (Finish q i)) → (step : Step) → IsStepOfLane q step → P step
by_kind q P starts waits goes_on finishes (Queue i) is = absurd is
by_kind q P starts waits goes_on finishes (Cancel i) is = absurd is
by_kind q P starts waits goes_on finishes (Start p i) is = subst (λ (n : ℕ). P (Start n i)) (sym is) (starts i)
by_kind q P starts waits goes_on finishes (Wait p b) is = subst (λ (n : ℕ). P (Wait n b)) (sym is) (waits false b)
by_kind q P starts waits goes_on finishes (WaitAll p b) is = subst (λ (n : ℕ). P (WaitAll n b)) (sym is) (waits true b)
by_kind q P starts waits goes_on finishes (Over p b) is = subst (λ (n : ℕ). P (Over n b)) (sym is) (goes_on false b)
by_kind q P starts waits goes_on finishes (OverAll p b) is = subst (λ (n : ℕ). P (OverAll n b)) (sym is) (goes_on true b)
by_kind q P starts waits goes_on finishes (Finish p i) is = subst (λ (n : ℕ). P (Finish n i)) (sym is) (finishes i)
by_kind q P starts waits goes_on finishes (Help p h deed) is = absurd is

-- ---- what a rescuer runs

waits-awake : (lane : Lane) (r t : Running) (flush : Waiting) → Runs lane r → r.waiting ≡ Some flush → Runs lane t → ¬ t.waiting ≡ None
waits-awake lane r t flush runs waits there awake =
    let same : t.waiting ≡ r.waiting = ap (λ (x : Running). x.waiting) (same_running lane 0 t r there runs) in
    let e : Some flush ≡ None = sym waits ∙ sym same ∙ awake in
    cc

awake-waits : (lane : Lane) (r t : Running) (flush : Waiting) → Runs lane r → r.waiting ≡ None → Runs lane t → ¬ t.waiting ≡ Some flush
awake-waits lane r t flush runs awake there waits = waits-awake lane t r flush there waits runs awake

module _ (w : Wiring) (s : State) (q : ℕ) where
  -- ---- an idle rescuer

  module _ (idle : (lane_at s q).running ≡ None) where
    -- it can only start the first pending entry whose item isn't running
    starts_only : (step : Step) → IsStepOfLane q step → Lawful w s step
        → (e : Entry) × (next_of (lane_at s q) ≡ Some e) × (step ≡ Start q e.item)
    starts_only =
        by_kind q (λ (step : Step). Lawful w s step → (e : Entry) × (next_of (lane_at s q) ≡ Some e) × (step ≡ Start q e.item))
        (λ i may. (may.entry, may.first, ap (λ (n : ℕ). Start q n) (sym may.of_item)))
        (λ whole b may. let runs = waits-lawful w s q whole b may in absurd (nothing_runs (lane_at s q) 0 idle runs.0 runs.1))
        (λ whole b may. let runs = goes_on-lawful w s q whole b may in absurd (nothing_runs (lane_at s q) 0 idle runs.0 runs.1))
        (λ i may. absurd (nothing_runs (lane_at s q) 0 idle may.0 may.1))

    MayStartFirst-next : (e : Entry) → next_of (lane_at s q) ≡ Some e → MayStartFirst (lane_at s q) e.item
    MayStartFirst-next e first = record { idle = idle; entry = e; first = first; of_item = refl }

    -- the rescuer of a bare lane doesn't start it
    forced_start : (step : Step) (e : Entry) → IsForcedStep w step → step ≡ Start q e.item → HasRescuer w q
    forced_start step e forced start = subst (IsForcedStep w) start forced

    pub RescuerCanMove-idle : (next : Option Entry) → IfSome next (λ (e : Entry). HasRescuer w q × (next_of (lane_at s q) ≡ Some e)) → IfNone next (HasRescuer w q → next_of (lane_at s q) ≡ None)
        → (b : Bool) → b ≡ is_some next → IsTrue b ↔ RescuerCanMove w s q
    RescuerCanMove-idle None some none b test = (
      (λ t. absurd (let e : false ≡ true = sym test ∙ t in cc)),
      (λ can.
          let starts = starts_only can.0 can.1 can.2 in
          absurd (let e : None ≡ Some starts.0 = sym (none (forced_start can.0 starts.0 can.3 starts.2)) ∙ starts.1 in cc)),
    )
    RescuerCanMove-idle (Some e) some none b test = ((λ t. (Start q e.item, refl, MayStartFirst-next e some.1, some.0)), (λ can. test))

    pub IsDeclaredStep-start : HasRescuer w q → (e : Entry) → next_of (lane_at s q) ≡ Some e → IsDeclaredStep w s q (Start q e.item)
    IsDeclaredStep-start rescuer e first = record { of_lane = refl; lawful = MayStartFirst-next e first; forced = rescuer; in_order = tt }

    pub HasNoDeclaredStep-bare : (HasRescuer w q → next_of (lane_at s q) ≡ None) → HasNoDeclaredStep w s q
    HasNoDeclaredStep-bare none step is =
        let starts = starts_only step is.of_lane is.lawful in
        let never : None ≡ Some starts.0 = sym (none (forced_start step starts.0 is.forced starts.2)) ∙ starts.1 in
        cc

    pub HasNoDeclaredStep-idle : next_of (lane_at s q) ≡ None → HasNoDeclaredStep w s q
    HasNoDeclaredStep-idle none step is =
        let starts = starts_only step is.of_lane is.lawful in
        let never : None ≡ Some starts.0 = sym none ∙ starts.1 in
        cc

  -- ---- a rescuer that runs something

  module _ (r : Running) (runs : Runs (lane_at s q) r) where
    -- what waits can only go on
    over_only : (flush : Waiting) → r.waiting ≡ Some flush → (step : Step) → IsStepOfLane q step → Lawful w s step
        → (¬ IsHeldBack w s flush.whole flush.target flush.mark) × (step ≡ over_of flush.whole q flush.target)
    over_only flush waits =
        by_kind q (λ (step : Step). Lawful w s step → (¬ IsHeldBack w s flush.whole flush.target flush.mark) × (step ≡ over_of flush.whole q flush.target))
        (λ i may. absurd (nothing_runs (lane_at s q) 0 may.idle r runs))
        (λ whole b may. let begins = waits-lawful w s q whole b may in absurd (waits-awake (lane_at s q) r begins.0 flush runs waits begins.1 begins.2.awake)) over
        (λ i may. absurd (waits-awake (lane_at s q) r may.0 flush runs waits may.1 may.2.awake))
      where
        same_flush : (t : Running) → Runs (lane_at s q) t → (f : Waiting) → t.waiting ≡ Some f → f ≡ flush
        same_flush t there f begun =
            let same : t.waiting ≡ r.waiting = ap (λ (x : Running). x.waiting) (same_running (lane_at s q) 0 t r there runs) in
            let e : Some f ≡ Some flush = sym begun ∙ same ∙ waits in
            cc

        over : (whole : Bool) (b : ℕ) → Lawful w s (over_of whole q b) → (¬ IsHeldBack w s flush.whole flush.target flush.mark) × (over_of whole q b ≡ over_of flush.whole q flush.target)
        over whole b lawful =
            let (t, there, may) = goes_on-lawful w s q whole b lawful in
            let same : may.flush ≡ flush = same_flush t there may.flush may.waits in
            let target : b ≡ flush.target = sym may.target ∙ ap (λ (f : Waiting). f.target) same in
            let kind : whole ≡ flush.whole = sym may.kind ∙ ap (λ (f : Waiting). f.whole) same in
            let done : ¬ IsHeldBack w s whole b flush.mark = subst (λ (f : Waiting). ¬ IsHeldBack w s whole b f.mark) same may.done in
            let here : ¬ IsHeldBack w s whole flush.target flush.mark = subst (λ (n : ℕ). ¬ IsHeldBack w s whole n flush.mark) target done in
            (subst (λ (k : Bool). ¬ IsHeldBack w s k flush.target flush.mark) kind here, ap (λ (n : ℕ). over_of whole q n) target ∙ ap (λ (k : Bool). over_of k q flush.target) kind)

    Lawful-over : (flush : Waiting) → r.waiting ≡ Some flush → (¬ IsHeldBack w s flush.whole flush.target flush.mark) → Lawful w s (over_of flush.whole q flush.target)
    Lawful-over flush waits done = lawful-goes_on w s q flush.whole flush.target (r, runs, record { flush = flush; waits = waits; kind = refl; target = refl; done = done })

    pub RescuerCanMove-waiting : (flush : Waiting) → r.waiting ≡ Some flush → (b : Bool) → IsTrue b ↔ IsHeldBack w s flush.whole flush.target flush.mark → IsTrue (not b) ↔ RescuerCanMove w s q
    RescuerCanMove-waiting flush waits true left =
        ((λ t. absurd cc), (λ can. absurd ((over_only flush waits can.0 can.1 can.2).0 (left.0 refl))))
    RescuerCanMove-waiting flush waits false left =
        let done : ¬ IsHeldBack w s flush.whole flush.target flush.mark = λ some. absurd (let e : false ≡ true = left.1 some in cc) in
        ((λ t. (over_of flush.whole q flush.target, of_lane-over_of q flush.whole flush.target, Lawful-over flush waits done, forced-over_of w q flush.whole flush.target)), (λ can. refl))

    pub IsDeclaredStep-over : (flush : Waiting) → r.waiting ≡ Some flush → (¬ IsHeldBack w s flush.whole flush.target flush.mark) → IsDeclaredStep w s q (over_of flush.whole q flush.target)
    IsDeclaredStep-over flush waits done =
        record {
          of_lane = of_lane-over_of q flush.whole flush.target;
          lawful = Lawful-over flush waits done;
          forced = forced-over_of w q flush.whole flush.target;
          in_order = in_order-goes_on w s q flush.whole flush.target;
        }

    pub HasNoDeclaredStep-waiting : (flush : Waiting) → r.waiting ≡ Some flush → IsHeldBack w s flush.whole flush.target flush.mark → HasNoDeclaredStep w s q
    HasNoDeclaredStep-waiting flush waits left step is = (over_only flush waits step is.of_lane is.lawful).0 left

    module _ (awake : r.waiting ≡ None) where
      -- the targets that its item declares
      abbrev targets : List Target
      targets = declared_by w r.entry.item

      -- a wait for the next target, or a finish
      abbrev next_step : Option Target → Step
      next_step (Some t) = wait_of t.whole q t.item
      next_step None = Finish q r.entry.item

      -- what doesn't wait can only make its next step
      next_only : (step : Step) → IsDeclaredStep w s q step → step ≡ next_step (slice_get targets r.made)
      next_only step is =
          by_kind q (λ (x : Step). Lawful w s x → KeepsOrder w s x → x ≡ next_step (slice_get targets r.made))
          (λ i may order. absurd (nothing_runs (lane_at s q) 0 may.idle r runs)) wait
          (λ whole b may order. let goes = goes_on-lawful w s q whole b may in absurd (awake-waits (lane_at s q) r goes.0 goes.2.flush runs awake goes.1 goes.2.waits)) finish step is.of_lane is.lawful is.in_order
        where
          wait : (whole : Bool) (b : ℕ) → Lawful w s (wait_of whole q b) → KeepsOrder w s (wait_of whole q b) → wait_of whole q b ≡ next_step (slice_get targets r.made)
          wait whole b may order =
              let (t, there, (x, next, item, kind)) = next-in_order w s q whole b order in
              let same : t ≡ r = same_running (lane_at s q) 0 t r there runs in
              let here : slice_get targets r.made ≡ Some x = subst (λ (y : Running). slice_get (declared_by w y.entry.item) y.made ≡ Some x) same next in
              ap (λ (n : ℕ). wait_of whole q n) (sym item) ∙ ap (λ (k : Bool). wait_of k q x.item) (sym kind) ∙ sym (ap (λ (o : Option Target). next_step o) here)

          finish : (i : ℕ) → Lawful w s (Finish q i) → KeepsOrder w s (Finish q i) → Finish q i ≡ next_step (slice_get targets r.made)
          finish i (t, there, may) (u, runs_too, last) =
              let same : t ≡ r = same_running (lane_at s q) 0 t r there runs in
              let made : r.made ≡ length targets = subst (λ (y : Running). y.made ≡ length (declared_by w y.entry.item)) (same_running (lane_at s q) 0 u r runs_too runs) last in
              let past : slice_get targets r.made ≡ None = slice_get_past targets r.made (omega (arith, made)) in
              let of_item : i ≡ r.entry.item = sym may.entry ∙ ap (λ (y : Running). y.entry.item) same in
              ap (λ (n : ℕ). Finish q n) of_item ∙ sym (ap (λ (o : Option Target). next_step o) past)

      Lawful-finish : Lawful w s (Finish q r.entry.item)
      Lawful-finish = (r, runs, record { entry = refl; awake = awake })

      pub RescuerCanMove-awake : RescuerCanMove w s q
      RescuerCanMove-awake = (Finish q r.entry.item, refl, Lawful-finish, tt)

      pub IsDeclaredStep-wait : (t : Target) → slice_get targets r.made ≡ Some t → IsDeclaredStep w s q (wait_of t.whole q t.item)
      IsDeclaredStep-wait t next =
          let within : r.made < length targets = slice_get_within targets r.made t next in
          let declared : ItemWaitsBy w.waits t.whole r.entry.item t.item = (r.made, t, within, get_or_from_slice_get targets r.made t t next, (refl, refl)) in
          record {
            of_lane = of_lane-wait_of q t.whole t.item;
            lawful = lawful-waits w s q t.whole t.item (r, runs, record { awake = awake; declared = declared; fewer = within });
            forced = forced-wait_of w q t.whole t.item;
            in_order = in_order-next w s q t.whole t.item (r, runs, (t, next, refl, refl));
          }

      pub IsDeclaredStep-finish : IsSoundRunning w r → slice_get targets r.made ≡ None → IsDeclaredStep w s q (Finish q r.entry.item)
      IsDeclaredStep-finish sound none =
          record { of_lane = refl; lawful = Lawful-finish; forced = tt; in_order = (r, runs, omega (arith, past, sound.made)) }
        where
          past : length targets ≤ r.made
          past = elim (slice_get_cases targets r.made).1 [
            | inl inside ↦ absurd (let e : None ≡ Some inside.0 = sym none ∙ inside.2 in cc)
            | inr out ↦ out.0
          ]

  -- ---- a helper

  module _ (h : ℕ) where
    -- one that runs nothing doesn't go on
    pub HelperGoesOn-idle : run_by (lane_at s q) h ≡ None → ¬ HelperGoesOn w s q h
    HelperGoesOn-idle idle (DoStart i, goes, lawful) = goes
    HelperGoesOn-idle idle (DoWait b, goes, lawful) = nothing_runs (lane_at s q) h idle lawful.1.0 lawful.1.1
    HelperGoesOn-idle idle (DoWaitAll b, goes, lawful) = nothing_runs (lane_at s q) h idle lawful.1.0 lawful.1.1
    HelperGoesOn-idle idle (DoOver b, goes, lawful) = nothing_runs (lane_at s q) h idle lawful.1.0 lawful.1.1
    HelperGoesOn-idle idle (DoOverAll b, goes, lawful) = nothing_runs (lane_at s q) h idle lawful.1.0 lawful.1.1
    HelperGoesOn-idle idle (DoFinish i, goes, lawful) = nothing_runs (lane_at s q) h idle lawful.1.0 lawful.1.1

    module _ (sound : IsSoundState w s) (some : 0 < h) (r : Running) (runs : RunsIn (lane_at s q) h r) where
      -- one that runs something exists
      exists : HasHelper w q h
      exists = (some, sound.helpers q h r runs)

      pub HelperGoesOn-awake : r.waiting ≡ None → HelperGoesOn w s q h
      HelperGoesOn-awake awake = (DoFinish r.entry.item, tt, (exists, (r, runs, record { entry = refl; awake = awake })))

      module _ (flush : Waiting) (waits : r.waiting ≡ Some flush) where
        -- what waits can only go on
        asleep : (t : Running) → RunsIn (lane_at s q) h t → ¬ t.waiting ≡ None
        asleep t there awake =
            let e : Some flush ≡ None = sym waits ∙ ap (λ (x : Running). x.waiting) (same_running (lane_at s q) h r t runs there) ∙ awake in
            cc

        not_over : (whole : Bool) (b : ℕ) (t : Running) → RunsIn (lane_at s q) h t → MayBeOver w s whole b t → ¬ IsHeldBack w s flush.whole flush.target flush.mark
        not_over whole b t there may =
            let both : Some may.flush ≡ Some flush = sym may.waits ∙ ap (λ (x : Running). x.waiting) (same_running (lane_at s q) h t r there runs) ∙ waits in
            let same : may.flush ≡ flush = cc in
            let kind : ¬ IsHeldBack w s may.flush.whole b may.flush.mark = subst (λ (k : Bool). ¬ IsHeldBack w s k b may.flush.mark) (sym may.kind) may.done in
            let target : ¬ IsHeldBack w s may.flush.whole may.flush.target may.flush.mark = subst (λ (n : ℕ). ¬ IsHeldBack w s may.flush.whole n may.flush.mark) (sym may.target) kind in
            subst (λ (f : Waiting). ¬ IsHeldBack w s f.whole f.target f.mark) same target

        goes_on-over : HelperGoesOn w s q h → ¬ IsHeldBack w s flush.whole flush.target flush.mark
        goes_on-over (DoStart i, goes, lawful) = absurd goes
        goes_on-over (DoWait b, goes, lawful) = absurd (asleep lawful.1.0 lawful.1.1 lawful.1.2.awake)
        goes_on-over (DoWaitAll b, goes, lawful) = absurd (asleep lawful.1.0 lawful.1.1 lawful.1.2.awake)
        goes_on-over (DoOver b, goes, lawful) = not_over false b lawful.1.0 lawful.1.1 lawful.1.2
        goes_on-over (DoOverAll b, goes, lawful) = not_over true b lawful.1.0 lawful.1.1 lawful.1.2
        goes_on-over (DoFinish i, goes, lawful) = absurd (asleep lawful.1.0 lawful.1.1 lawful.1.2.awake)

        over-goes_on : (whole : Bool) → flush.whole ≡ whole → (¬ IsHeldBack w s flush.whole flush.target flush.mark) → HelperGoesOn w s q h
        over-goes_on false kind done =
            let over = subst (λ (k : Bool). ¬ IsHeldBack w s k flush.target flush.mark) kind done in
            (DoOver flush.target, tt, (exists, (r, runs, record { flush = flush; waits = waits; kind = kind; target = refl; done = over })))
        over-goes_on true kind done =
            let over = subst (λ (k : Bool). ¬ IsHeldBack w s k flush.target flush.mark) kind done in
            (DoOverAll flush.target, tt, (exists, (r, runs, record { flush = flush; waits = waits; kind = kind; target = refl; done = over })))

        pub HelperGoesOn-waiting : (b : Bool) → IsTrue b ↔ IsHeldBack w s flush.whole flush.target flush.mark → IsTrue (not b) ↔ HelperGoesOn w s q h
        HelperGoesOn-waiting true left = ((λ t. absurd cc), (λ can. absurd (goes_on-over can (left.0 refl))))
        HelperGoesOn-waiting false left =
            let done : ¬ IsHeldBack w s flush.whole flush.target flush.mark = λ held. absurd (let e : false ≡ true = left.1 held in cc) in
            ((λ t. over-goes_on flush.whole refl done), (λ can. refl))

  -- a helper that goes on exists
  pub HelperGoesOn-exists : (h : ℕ) → HelperGoesOn w s q h → HasHelper w q h
  HelperGoesOn-exists h can = can.2.0

  -- ---- any lane

  -- a rescuer has at most one declared step
  pub declared_steps_equal : (a b : Step) → IsDeclaredStep w s q a → IsDeclaredStep w s q b → a ≡ b
  declared_steps_equal a b first second = by_running (lane_at s q).running refl
    where
      by_waiting : (r : Running) → Runs (lane_at s q) r → (o : Option Waiting) → r.waiting ≡ o → a ≡ b
      by_waiting r runs None awake = next_only r runs awake a first ∙ sym (next_only r runs awake b second)
      by_waiting r runs (Some flush) waits =
          (over_only r runs flush waits a first.of_lane first.lawful).1 ∙ sym (over_only r runs flush waits b second.of_lane second.lawful).1

      by_running : (o : Option Running) → (lane_at s q).running ≡ o → a ≡ b
      by_running None idle =
          let (e, is_first, start) = starts_only idle a first.of_lane first.lawful in
          let (f, is_first_too, start_too) = starts_only idle b second.of_lane second.lawful in
          let same : Some e ≡ Some f = sym is_first ∙ is_first_too in
          let entry : e ≡ f = cc in
          start ∙ ap (λ (x : Entry). Start q x.item) entry ∙ sym start_too
      by_running (Some r) runs = by_waiting r runs r.waiting refl

  -- a rescuer that can make a step has a declared step
  pub IsDeclaredStep-rescuer : IsSoundState w s → RescuerCanMove w s q → (step : Step) × IsDeclaredStep w s q step
  IsDeclaredStep-rescuer sound (step, of_lane, lawful, forced) = by_running (lane_at s q).running refl
    where
      by_next : (r : Running) → Runs (lane_at s q) r → r.waiting ≡ None → (o : Option Target) → slice_get (declared_by w r.entry.item) r.made ≡ o → (x : Step) × IsDeclaredStep w s q x
      by_next r runs awake None next = (Finish q r.entry.item, IsDeclaredStep-finish r runs awake (sound.running q 0 r runs) next)
      by_next r runs awake (Some t) next = (wait_of t.whole q t.item, IsDeclaredStep-wait r runs awake t next)

      by_waiting : (r : Running) → Runs (lane_at s q) r → (o : Option Waiting) → r.waiting ≡ o → (x : Step) × IsDeclaredStep w s q x
      by_waiting r runs None awake = by_next r runs awake (slice_get (declared_by w r.entry.item) r.made) refl
      by_waiting r runs (Some flush) waits =
          (over_of flush.whole q flush.target, IsDeclaredStep-over r runs flush waits (over_only r runs flush waits step of_lane lawful).0)

      by_running : (o : Option Running) → (lane_at s q).running ≡ o → (x : Step) × IsDeclaredStep w s q x
      by_running None idle =
          let (e, first, start) = starts_only idle step of_lane lawful in
          (Start q e.item, IsDeclaredStep-start idle (subst (IsForcedStep w) start forced) e first)
      by_running (Some r) runs = by_waiting r runs r.waiting refl

  -- so does a lane that can move, where no helper runs anything
  pub IsDeclaredStep-can_move : IsSoundState w s → ((c : ℕ) (r : Running) → RunsIn (lane_at s q) c r → c ≡ 0) → CanMove w s q → (step : Step) × IsDeclaredStep w s q step
  IsDeclaredStep-can_move sound only (inl rescuer) = IsDeclaredStep-rescuer sound rescuer
  IsDeclaredStep-can_move sound only (inr (h, can)) = absurd (HelperGoesOn-idle h (by (run_by (lane_at s q) h) refl) can)
    where
      some : 0 < h
      some = (HelperGoesOn-exists h can).0

      by : (o : Option Running) → run_by (lane_at s q) h ≡ o → run_by (lane_at s q) h ≡ None
      by None is = is
      by (Some r) is = absurd (omega (arith, some, only h r is))

  -- a lane that can move exists
  pub RescuerCanMove-within : RescuerCanMove w s q → q < length s.lanes
  RescuerCanMove-within (step, of_lane, lawful, forced) =
      by_kind q (λ (x : Step). Lawful w s x → q < length s.lanes) (λ i may. starts_within s q 0 i (MayStart-first (lane_at s q) i may))
      (λ whole b may. let waits = waits-lawful w s q whole b may in runs_within s q 0 waits.0 waits.1)
      (λ whole b may. let goes = goes_on-lawful w s q whole b may in runs_within s q 0 goes.0 goes.1) (λ i may. runs_within s q 0 may.0 may.1) step of_lane lawful

  pub HelperGoesOn-within : (h : ℕ) → HelperGoesOn w s q h → q < length s.lanes
  HelperGoesOn-within h (DoStart i, goes, lawful) = absurd goes
  HelperGoesOn-within h (DoWait b, goes, lawful) = runs_within s q h lawful.1.0 lawful.1.1
  HelperGoesOn-within h (DoWaitAll b, goes, lawful) = runs_within s q h lawful.1.0 lawful.1.1
  HelperGoesOn-within h (DoOver b, goes, lawful) = runs_within s q h lawful.1.0 lawful.1.1
  HelperGoesOn-within h (DoOverAll b, goes, lawful) = runs_within s q h lawful.1.0 lawful.1.1
  HelperGoesOn-within h (DoFinish i, goes, lawful) = runs_within s q h lawful.1.0 lawful.1.1

  pub CanMove-within : CanMove w s q → q < length s.lanes
  CanMove-within (inl rescuer) = RescuerCanMove-within rescuer
  CanMove-within (inr (h, can)) = HelperGoesOn-within h can
