-- Whether a step is lawful, whether it keeps to the order of its declaration, and whether a state is stuck.
use Rattle.std.proofs.Common.{◌≡◌, ℕ, zero, suc, ◌+◌, ◌<◌, ◌≤◌, inl, inr, ◌↔◌, Bool, true, false, List, length, Option, Some, None, refl, sym, ap, subst, ◌∙◌, arith}
use Rattle.std.specs.Prelude.{IsTrue, IfSome, IfNone, slice_get, is_some}
use Rattle.std.specs.List.{Any}
use Rattle.std.proofs.lemmas.Bool.{cases_eq}
use Rattle.wq_items.specs.declared.target.Target.{Target}
use Rattle.wq_items.specs.Table.{ItemWaitsBy, targets_of}
use Rattle.wq_core.specs.declared.entry.Entry.{Entry}
use Rattle.wq_core.specs.declared.entry.Waiting.{Waiting}
use Rattle.wq_core.specs.declared.entry.Running.{Running}
use Rattle.wq_core.specs.declared.step.Step.{Step}
use Rattle.wq_core.specs.declared.step.Step.TheVariants.{Queue, Cancel, Start, Wait, Over, WaitAll, OverAll, Finish, Help}
use Rattle.wq_core.specs.declared.step.HelpStep.{HelpStep}
use Rattle.wq_core.specs.declared.step.HelpStep.TheVariants.{Start as DoStart, Wait as DoWait, WaitAll as DoWaitAll, Over as DoOver, OverAll as DoOverAll, Finish as DoFinish}
use Rattle.wq_core.specs.Wiring.{Wiring, HasRescuer, HasHelper, helpers_of, items, declared_by}
use Rattle.wq_core.specs.State.{Lane, State, lane_at, run_by, Runs, RunsIn, is_running, next_of, HasPending}
use Rattle.wq_core.specs.State.{HasUnfinishedOf}
use Rattle.wq_core.specs.Rules.{IsHeldBack, MayWait, MayBeOver, MayFinish, MayStart, MayStartFirst, MayDo, Lawful}
use Rattle.wq_core.specs.Runs.{KeepsOrder, KeepsOrderIn, IsNextWait}
use Rattle.wq_core.specs.Held.{IsSoundState}
use Rattle.wq_core.specs.Deadlock.{IsStuck}
use Rattle.wq_core.specs.MustGoOn.{IsStuckFor}
use Rattle.wq_core.specs.Played.{CanMove, RescuerCanMove, HelperGoesOn}
use Rattle.wq_core.proofs.DeclaredSteps.{RescuerCanMove-idle, RescuerCanMove-waiting, RescuerCanMove-awake, HelperGoesOn-idle, HelperGoesOn-waiting, HelperGoesOn-awake, HelperGoesOn-exists, CanMove-within}
use Rattle.wq_core.proofs.LaneLemmas.{nothing_runs, same_running}
use Rattle.wq_core.proofs.Machines.{HasUnfinishedOf-below_next}
use Rattle.wq_core.proofs.Playing.{cases_held_back}
use Rattle.wq_core.proofs.Wirings.{cases_rescuer as has_rescuer}
use Rattle.wq_checker.specs.Searching.{HasOneLeft}
use Rattle.wq_checker.proofs.Decided.{Decided, both, one_of, not_so, alike, cases_below, cases_most, cases_Any, cases_each_below, cases_some_below}
use Rattle.wq_checker.proofs.StuckStates.{cases_lane, cases_owed, IsStuck-can_move, IsStuck-cannot_move}
use Rattle.wq_checker.proofs.StuckStates.{IsStuckFor-can_move, IsStuckFor-cannot_move}

-- ---- what is pending

-- an entry of the item is pending
abbrev PendingOf : Lane → ℕ → Type 0
PendingOf lane i = Any (λ (e : Entry). e.item ≡ i) lane.pending

cases_pending : (lane : Lane) (i : ℕ) → Decided (PendingOf lane i)
cases_pending lane i = cases_Any (λ (e : Entry). e.item ≡ i) (λ e. cases_eq e.item i) lane.pending

cases_HasPending : (s : State) (i : ℕ) → Decided (HasPending s i)
cases_HasPending s i = elim (cases_lane (λ lane. PendingOf lane i) (λ lane. cases_pending lane i) s.lanes) [
  | inl some ↦ inl (record { lane = some.0; entry = some.1.1; pending = (some.1.0, some.1.2, some.1.3); of_item = some.1.4 })
  | inr none ↦ inr (λ h. none h.lane (h.pending.0, h.entry, h.pending.1, h.pending.2, h.of_item))
]

-- ---- what runs

cases_none : {X : Type 0} (o : Option X) → Decided (o ≡ None)
cases_none None = inl refl
cases_none (Some x) = inr (λ e. absurd cc)

cases_kind : (a b : Bool) → Decided (a ≡ b)
cases_kind true true = inl refl
cases_kind true false = inr (λ e. absurd cc)
cases_kind false true = inr (λ e. absurd cc)
cases_kind false false = inl refl

cases_ItemWaitsBy : (waits : List (List Target)) (whole : Bool) (i j : ℕ) → Decided (ItemWaitsBy waits whole i j)
cases_ItemWaitsBy waits whole i j = cases_Any (λ (t : Target). (t.item ≡ j) × (t.whole ≡ whole)) (λ t. both (cases_eq t.item j) (cases_kind t.whole whole)) (targets_of waits i)

-- what a test says
cases_test : {P : Type 0} (b : Bool) → (IsTrue b ↔ P) → Decided P
cases_test true test = inl (test.0 refl)
cases_test false test = inr (λ p. absurd (let e : false ≡ true = test.1 p in cc))

holds : {P : Type 0} → P → IsTrue true ↔ P
holds p = ((λ e. p), (λ h. refl))

fails : {P : Type 0} → (¬ P) → IsTrue false ↔ P
fails no_p = ((λ e. absurd (let apart : false ≡ true = e in cc)), (λ p. absurd (no_p p)))

module _ (w : Wiring) (s : State) where
  -- what a context runs, and what is said about it
  cases_runs : (lane : Lane) (c : ℕ) (P : Running → Type 0) → ((r : Running) → Decided (P r)) → Decided ((r : Running) × RunsIn lane c r × P r)
  cases_runs lane c P decide = by_running (run_by lane c) refl
    where
      by_running : (o : Option Running) → run_by lane c ≡ o → Decided ((r : Running) × RunsIn lane c r × P r)
      by_running None idle = inr (λ h. nothing_runs lane c idle h.0 h.1)
      by_running (Some r) runs = elim (decide r) [ inl p ↦ inl (r, runs, p) | inr not_p ↦ inr (λ h. not_p (subst P (same_running lane c h.0 r h.1 runs) h.2)) ]

  cases_MayWait : (whole : Bool) (b : ℕ) (r : Running) → Decided (MayWait w whole b r)
  cases_MayWait whole b r =
      alike {P = (r.waiting ≡ None) × (ItemWaitsBy w.waits whole r.entry.item b × (r.made < length (declared_by w r.entry.item)))} (λ h. record { awake = h.0; declared = h.1.0; fewer = h.1.1 })
      (λ may. (may.awake, (may.declared, may.fewer))) (both (cases_none r.waiting) (both (cases_ItemWaitsBy w.waits whole r.entry.item b) (cases_below r.made (length (declared_by w r.entry.item)))))

  -- what waits so waits for nothing else
  only_flush : (r : Running) (f : Waiting) → r.waiting ≡ Some f → (whole : Bool) (b : ℕ) → (may : MayBeOver w s whole b r) → may.flush ≡ f
  only_flush r f waits whole b may = let e : Some may.flush ≡ Some f = sym may.waits ∙ waits in cc

  cases_MayBeOver : (whole : Bool) (b : ℕ) (r : Running) → Decided (MayBeOver w s whole b r)
  cases_MayBeOver whole b r = by_waiting r.waiting refl
    where
      by_waiting : (o : Option Waiting) → r.waiting ≡ o → Decided (MayBeOver w s whole b r)
      by_waiting None awake = inr (λ may. absurd (let e : None ≡ Some may.flush = sym awake ∙ may.waits in cc))
      by_waiting (Some f) waits =
          alike (λ (h : (f.whole ≡ whole) × ((f.target ≡ b) × (¬ IsHeldBack w s whole b f.mark))). record { flush = f; waits = waits; kind = h.0; target = h.1.0; done = h.1.1 })
          (λ (may : MayBeOver w s whole b r).
          let same : may.flush ≡ f = only_flush r f waits whole b may in
          (ap (λ (x : Waiting). x.whole) (sym same) ∙ may.kind, (ap (λ (x : Waiting). x.target) (sym same) ∙ may.target, subst (λ (x : Waiting). ¬ IsHeldBack w s whole b x.mark) same may.done)))
          (both (cases_kind f.whole whole) (both (cases_eq f.target b) (not_so (cases_held_back w s whole b f.mark))))

  cases_MayFinish : (i : ℕ) (r : Running) → Decided (MayFinish i r)
  cases_MayFinish i r =
      alike {P = (r.entry.item ≡ i) × (r.waiting ≡ None)} (λ h. record { entry = h.0; awake = h.1 }) (λ may. (may.entry, may.awake)) (both (cases_eq r.entry.item i) (cases_none r.waiting))

  cases_MayStart : (lane : Lane) (c i : ℕ) → Decided (MayStart lane c i)
  cases_MayStart lane c i =
      alike {P = (run_by lane c ≡ None) × (PendingOf lane i × (is_running lane i ≡ false))}
      (λ h. record { idle = h.0; entry = h.1.0.1; pending = (h.1.0.0, h.1.0.2, h.1.0.3); of_item = h.1.0.4; not_running = h.1.1 })
      (λ may. (may.idle, ((may.pending.0, may.entry, may.pending.1, may.pending.2, may.of_item), may.not_running)))
      (both (cases_none (run_by lane c)) (both (cases_pending lane i) (cases_kind (is_running lane i) false)))

  -- the next entry of a lane is of this item
  cases_next_entry : (lane : Lane) (i : ℕ) → Decided ((e : Entry) × (next_of lane ≡ Some e) × (e.item ≡ i))
  cases_next_entry lane i = by_next (next_of lane) refl
    where
      by_next : (o : Option Entry) → next_of lane ≡ o → Decided ((e : Entry) × (next_of lane ≡ Some e) × (e.item ≡ i))
      by_next None none = inr (λ h. absurd (let e : None ≡ Some h.0 = sym none ∙ h.1 in cc))
      by_next (Some e) first =
          alike (λ (of : e.item ≡ i). (e, first, of)) (λ h. (let same : e ≡ h.0 = (let both_first : Some e ≡ Some h.0 = sym first ∙ h.1 in cc) in ap (λ (x : Entry). x.item) same ∙ h.2)) (cases_eq e.item i)

  cases_MayStartFirst : (lane : Lane) (i : ℕ) → Decided (MayStartFirst lane i)
  cases_MayStartFirst lane i =
      alike {P = (lane.running ≡ None) × ((e : Entry) × (next_of lane ≡ Some e) × (e.item ≡ i))} (λ h. record { idle = h.0; entry = h.1.0; first = h.1.1; of_item = h.1.2 })
      (λ may. (may.idle, (may.entry, may.first, may.of_item))) (both (cases_none lane.running) (cases_next_entry lane i))

  cases_HasHelper : (q h : ℕ) → Decided (HasHelper w q h)
  cases_HasHelper q h = both (cases_below 0 h) (cases_most h (helpers_of w q))

  -- ---- steps

  cases_MayDo : (q c : ℕ) (deed : HelpStep) → Decided (MayDo w s q c deed)
  cases_MayDo q c (DoStart i) = cases_MayStart (lane_at s q) c i
  cases_MayDo q c (DoWait b) = cases_runs (lane_at s q) c (MayWait w false b) (cases_MayWait false b)
  cases_MayDo q c (DoWaitAll b) = cases_runs (lane_at s q) c (MayWait w true b) (cases_MayWait true b)
  cases_MayDo q c (DoOver b) = cases_runs (lane_at s q) c (MayBeOver w s false b) (cases_MayBeOver false b)
  cases_MayDo q c (DoOverAll b) = cases_runs (lane_at s q) c (MayBeOver w s true b) (cases_MayBeOver true b)
  cases_MayDo q c (DoFinish i) = cases_runs (lane_at s q) c (MayFinish i) (cases_MayFinish i)

  pub cases_Lawful : (step : Step) → Decided (Lawful w s step)
  cases_Lawful (Queue i) = both (cases_below i (items w)) (not_so (cases_HasPending s i))
  cases_Lawful (Cancel i) = cases_HasPending s i
  cases_Lawful (Start q i) = cases_MayStartFirst (lane_at s q) i
  cases_Lawful (Wait q b) = cases_MayDo q 0 (DoWait b)
  cases_Lawful (Over q b) = cases_MayDo q 0 (DoOver b)
  cases_Lawful (WaitAll q b) = cases_MayDo q 0 (DoWaitAll b)
  cases_Lawful (OverAll q b) = cases_MayDo q 0 (DoOverAll b)
  cases_Lawful (Finish q i) = cases_MayDo q 0 (DoFinish i)
  cases_Lawful (Help q h deed) = both (cases_HasHelper q h) (cases_MayDo q h deed)

  cases_next : (whole : Bool) (b : ℕ) (o : Option Target) → Decided ((t : Target) × (o ≡ Some t) × (t.item ≡ b) × (t.whole ≡ whole))
  cases_next whole b None = inr (λ h. absurd (let e : None ≡ Some h.0 = h.1 in cc))
  cases_next whole b (Some t) =
      alike (λ (of : (t.item ≡ b) × (t.whole ≡ whole)). (t, refl, of.0, of.1))
      (λ (h : (x : Target) × (Some t ≡ Some x) × (x.item ≡ b) × (x.whole ≡ whole)).
      let same : t ≡ h.0 = (let e : Some t ≡ Some h.0 = h.1 in cc) in
      (ap (λ (x : Target). x.item) same ∙ h.2, ap (λ (x : Target). x.whole) same ∙ h.3))
      (both (cases_eq t.item b) (cases_kind t.whole whole))

  cases_IsNextWait : (q c : ℕ) (whole : Bool) (b : ℕ) → Decided (IsNextWait w s q c whole b)
  cases_IsNextWait q c whole b =
      cases_runs (lane_at s q) c (λ r. (t : Target) × (slice_get (declared_by w r.entry.item) r.made ≡ Some t) × (t.item ≡ b) × (t.whole ≡ whole))
      (λ r. cases_next whole b (slice_get (declared_by w r.entry.item) r.made))

  cases_KeepsOrderIn : (q c : ℕ) (deed : HelpStep) → Decided (KeepsOrderIn w s q c deed)
  cases_KeepsOrderIn q c (DoStart i) = inl tt
  cases_KeepsOrderIn q c (DoWait b) = cases_IsNextWait q c false b
  cases_KeepsOrderIn q c (DoWaitAll b) = cases_IsNextWait q c true b
  cases_KeepsOrderIn q c (DoOver b) = inl tt
  cases_KeepsOrderIn q c (DoOverAll b) = inl tt
  cases_KeepsOrderIn q c (DoFinish i) = cases_runs (lane_at s q) c (λ r. r.made ≡ length (declared_by w r.entry.item)) (λ r. cases_eq r.made (length (declared_by w r.entry.item)))

  pub cases_KeepsOrder : (step : Step) → Decided (KeepsOrder w s step)
  cases_KeepsOrder (Queue i) = inl tt
  cases_KeepsOrder (Cancel i) = inl tt
  cases_KeepsOrder (Start q i) = cases_KeepsOrderIn q 0 (DoStart i)
  cases_KeepsOrder (Wait q b) = cases_KeepsOrderIn q 0 (DoWait b)
  cases_KeepsOrder (Over q b) = cases_KeepsOrderIn q 0 (DoOver b)
  cases_KeepsOrder (WaitAll q b) = cases_KeepsOrderIn q 0 (DoWaitAll b)
  cases_KeepsOrder (OverAll q b) = cases_KeepsOrderIn q 0 (DoOverAll b)
  cases_KeepsOrder (Finish q i) = cases_KeepsOrderIn q 0 (DoFinish i)
  cases_KeepsOrder (Help q h deed) = cases_KeepsOrderIn q h deed

  -- ---- lanes

  module _ (sound : IsSoundState w s) (q : ℕ) where
    cases_rescuer : Decided (RescuerCanMove w s q)
    cases_rescuer = by_running (lane_at s q).running refl
      where
        is_next : (next : Option Entry) → HasRescuer w q → next_of (lane_at s q) ≡ next → IfSome next (λ (e : Entry). HasRescuer w q × (next_of (lane_at s q) ≡ Some e))
        is_next None rescuer is = tt
        is_next (Some e) rescuer is = (rescuer, is)

        no_next : (next : Option Entry) → next_of (lane_at s q) ≡ next → IfNone next (HasRescuer w q → next_of (lane_at s q) ≡ None)
        no_next None is = λ rescuer. is
        no_next (Some e) is = tt

        by_waiting : (r : Running) → Runs (lane_at s q) r → (o : Option Waiting) → r.waiting ≡ o → Decided (RescuerCanMove w s q)
        by_waiting r runs None awake = inl (RescuerCanMove-awake w s q r runs awake)
        by_waiting r runs (Some f) waits = elim (cases_held_back w s f.whole f.target f.mark) [
          | inl left ↦ cases_test false (RescuerCanMove-waiting w s q r runs f waits true (holds left))
          | inr done ↦ cases_test true (RescuerCanMove-waiting w s q r runs f waits false (fails done))
        ]

        by_running : (o : Option Running) → (lane_at s q).running ≡ o → Decided (RescuerCanMove w s q)
        by_running None idle = elim (has_rescuer w q) [
          | inl rescuer ↦ (
              let next = next_of (lane_at s q) in
              cases_test (is_some next) (RescuerCanMove-idle w s q idle next (is_next next rescuer refl) (no_next next refl) (is_some next) refl)
              )
          | inr bare ↦ inr (λ can. absurd (let e : false ≡ true = (RescuerCanMove-idle w s q idle None tt (λ rescuer. absurd (bare rescuer)) false refl).1 can in cc))
        ]
        by_running (Some r) runs = by_waiting r runs r.waiting refl

    cases_helper : (h : ℕ) → Decided (HelperGoesOn w s q h)
    cases_helper zero = inr (λ can. absurd (omega (arith, (HelperGoesOn-exists w s q 0 can).0)))
    cases_helper (suc h) = by_running (run_by (lane_at s q) (suc h)) refl
      where
        some : 0 < suc h
        some = omega arith

        by_waiting : (r : Running) → RunsIn (lane_at s q) (suc h) r → (o : Option Waiting) → r.waiting ≡ o → Decided (HelperGoesOn w s q (suc h))
        by_waiting r runs None awake = inl (HelperGoesOn-awake w s q (suc h) sound some r runs awake)
        by_waiting r runs (Some f) waits = elim (cases_held_back w s f.whole f.target f.mark) [
          | inl left ↦ cases_test false (HelperGoesOn-waiting w s q (suc h) sound some r runs f waits true (holds left))
          | inr done ↦ cases_test true (HelperGoesOn-waiting w s q (suc h) sound some r runs f waits false (fails done))
        ]

        by_running : (o : Option Running) → run_by (lane_at s q) (suc h) ≡ o → Decided (HelperGoesOn w s q (suc h))
        by_running None idle = inr (HelperGoesOn-idle w s q (suc h) idle)
        by_running (Some r) runs = by_waiting r runs r.waiting refl

    -- there are only so many
    cases_helpers : Decided ((h : ℕ) × HelperGoesOn w s q h)
    cases_helpers =
        alike {P = (h : ℕ) × (h < helpers_of w q + 1) × HelperGoesOn w s q h} (λ p. (p.0, p.2)) (λ p. (p.0, below p.0 (helpers_of w q) (HelperGoesOn-exists w s q p.0 p.1).1, p.1))
        (cases_some_below (λ h. HelperGoesOn w s q h) cases_helper (helpers_of w q + 1))
      where
        below : (m n : ℕ) → m ≤ n → m < n + 1
        below m n most = omega (arith, most)

    cases_CanMove : Decided (CanMove w s q)
    cases_CanMove = one_of cases_rescuer cases_helpers

  cases_none_moves : IsSoundState w s → Decided ((q : ℕ) → ¬ CanMove w s q)
  cases_none_moves sound =
      alike (λ (each : (q : ℕ) → q < length s.lanes → ¬ CanMove w s q) q can. each q (CanMove-within w s q can) can) (λ (none : (q : ℕ) → ¬ CanMove w s q) q within. none q)
      (cases_each_below (λ q. ¬ CanMove w s q) (λ q. not_so (cases_CanMove sound q)) (length s.lanes))

  pub cases_IsStuck : IsSoundState w s → Decided (IsStuck w s)
  cases_IsStuck sound = elim (cases_none_moves sound) [
    | inl none ↦ elim (cases_owed w s) [
      | inl owed ↦ inl ((IsStuck-cannot_move w s none false ((λ e. absurd (let apart : false ≡ true = e in cc)), (λ nothing. absurd (nothing owed.0 owed.1)))).0 refl)
      | inr nothing ↦ inr (λ stuck. nothing (stuck.left, stuck.rescuer))
    ]
    | inr some ↦ inr (λ stuck. some (λ q can. IsStuck-can_move w s q can stuck))
  ]

  -- an entry of one of these items is unfinished, or of none
  cases_one_left : IsSoundState w s → (named : List ℕ) → Decided (HasOneLeft s named)
  cases_one_left sound named =
      alike (λ h. (h.1, (h.0, h.2, h.3), h.4)) (λ (h : HasOneLeft s named). (h.1.0, h.0, h.1.1, h.1.2, h.2))
      (cases_Any (λ i. HasUnfinishedOf s i) decide named)
    where
      decide : (i : ℕ) → Decided (HasUnfinishedOf s i)
      decide i =
          let is = HasUnfinishedOf-below_next w s i sound in
          alike is.1 is.0 (cases_held_back w s false i s.next)

  pub cases_IsStuckFor : IsSoundState w s → (named : List ℕ) → Decided (IsStuckFor w named s)
  cases_IsStuckFor sound named = elim (cases_none_moves sound) [
    | inl none ↦ elim (cases_one_left sound named) [
      | inl left ↦ inl ((IsStuckFor-cannot_move w s named none true (holds left)).0 refl)
      | inr nothing ↦ inr (λ stuck. nothing (stuck.item, stuck.is_named, stuck.left))
    ]
    | inr some ↦ inr (λ stuck. some (λ q can. IsStuckFor-can_move w s named q can stuck))
  ]
