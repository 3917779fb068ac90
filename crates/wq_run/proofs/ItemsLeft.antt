-- How many entries are unfinished, each weighted by its item, and how each lawful step changes this sum.
use Rattle.std.proofs.Common.{◌≡◌, ◌≢◌, ℕ, zero, suc, ◌+◌, ◌<◌, ◌≤◌, inl, not, eqb, List, [], ◌∷◌, length, get_or}
use Rattle.std.proofs.Common.{Option, Some, None, refl, sym, ap, subst, ◌∙◌, arith, true, false}
use Rattle.std.specs.Prelude.{AllPairs, Contains, option_map, sum_by}
use Rattle.std.specs.List.{All, filter}
use Rattle.std.proofs.lemmas.Bool.{cond-true, cond-false, eq-eqb, ne_eqb}
use Rattle.std.proofs.lemmas.List.Sums.{sum_by-cons, sum_by-set, sum_by-append}
use Rattle.wq_items.proofs.Lists.{AllPairs-head, AllPairs-tail}
use Rattle.wq_core.specs.declared.entry.Entry.{Entry}
use Rattle.wq_core.specs.declared.entry.Running.{Running}
use Rattle.wq_core.specs.declared.step.Step.{Step}
use Rattle.wq_core.specs.declared.step.Step.TheVariants.{Queue, Cancel, Start, Wait, Over, WaitAll, OverAll, Finish}
use Rattle.wq_core.specs.declared.step.Step.TheVariants.{Help}
use Rattle.wq_core.specs.declared.step.HelpStep.{HelpStep}
use Rattle.wq_core.specs.declared.step.HelpStep.TheVariants.{Start as DoStart, Wait as DoWait, WaitAll as DoWaitAll}
use Rattle.wq_core.specs.declared.step.HelpStep.TheVariants.{Over as DoOver, OverAll as DoOverAll, Finish as DoFinish}
use Rattle.wq_core.specs.Wiring.{Wiring, IsWiring, max_helpers, HasHelper, lane_of}
use Rattle.wq_core.specs.State.{Lane, State, idle_lane, lane_at, with_lane, run_by, with_run_by, RunsIn}
use Rattle.wq_core.specs.Rules.{MayStart, MayDo, Lawful, begun, waiting_for, going_on, with_queued, with_cancelled}
use Rattle.wq_core.specs.Rules.{with_started, with_wait, with_over, with_finished, done_by, effect}
use Rattle.wq_core.specs.Held.{IsSoundState}
use Rattle.wq_core.proofs.LaneLemmas.{lane_within, runs_within}
use Rattle.wq_core.proofs.Contexts.{found-pending, helpers_of-few, MayStart-first, runs_place, same_run}
use Rattle.wq_core.proofs.Machines.{pending-own_lane}
use Rattle.wq_core.proofs.Sound.{Differ}
use Rattle.wq_core.proofs.WorkChanges.{lane_of-within}

-- what an entry counts
abbrev pub entry_left : (ℕ → ℕ) → Entry → ℕ
entry_left f e = f e.item

-- and what runs
abbrev pub run_left : (ℕ → ℕ) → Option Running → ℕ
run_left f None = 0
run_left f (Some r) = f r.entry.item

-- all of a lane, and of all lanes
abbrev pub lane_left : (ℕ → ℕ) → Lane → ℕ
lane_left f lane = sum_by (entry_left f) lane.pending + (run_left f lane.running + sum_by (run_left f) lane.helping)

abbrev pub left : (ℕ → ℕ) → State → ℕ
left f s = sum_by (lane_left f) s.lanes

-- ---- pending entries

abbrev others : ℕ → List Entry → List Entry
others i ps = filter (λ (e : Entry). not (eqb e.item i)) ps

of_others : (f : ℕ → ℕ) (i : ℕ) (ps : List Entry) → All (λ (e : Entry). e.item ≢ i) ps
    → sum_by (entry_left f) (others i ps) ≡ sum_by (entry_left f) ps
of_others f i [] each = refl
of_others f i (p ∷ ps) each =
    let differs : eqb p.item i ≡ false = ne_eqb p.item i (each 0 p (omega arith)) in
    let stays : others i (p ∷ ps) ≡ p ∷ others i ps =
    cond-true (not (eqb p.item i)) (p ∷ others i ps) (others i ps) (ap not differs) in
    let rest = of_others f i ps (λ k d lt. each (suc k) d (omega arith)) in
    omega (
      arith,
      ap (λ (es : List Entry). sum_by (entry_left f) es) stays,
      sum_by-cons (entry_left f) p
          (others i ps),
      sum_by-cons (entry_left f) p ps,
      rest,
    )

of_one : (f : ℕ → ℕ) (i : ℕ) (ps : List Entry) (e : Entry) → AllPairs Differ ps → Contains ps e → e.item ≡ i
    → sum_by (entry_left f) (others i ps) + f i ≡ sum_by (entry_left f) ps
of_one f i [] e once (k, lt, at) of_item = absurd (omega arith)
of_one f i (p ∷ ps) e once (zero, lt, at) of_item =
    let same : p.item ≡ i = ap (λ (g : Entry). g.item) at ∙ of_item in
    let goes : others i (p ∷ ps) ≡ others i ps =
    cond-false (not (eqb p.item i)) (p ∷ others i ps) (others i ps) (ap not (eq-eqb p.item i same)) in
    let none : All (λ (g : Entry). g.item ≢ i) ps =
    λ k d within is. AllPairs-head Differ p ps once k d within (same ∙ sym is) in
    omega (
      arith,
      ap (λ (es : List Entry). sum_by (entry_left f) es) goes,
      of_others f i ps none,
      sum_by-cons
          (entry_left f) p ps,
      ap f same,
    )
of_one f i (p ∷ ps) e once (suc k, lt, at) of_item =
    let here : get_or ps k e ≡ e = at in
    let within : k < length ps = omega arith in
    let differs : p.item ≢ i =
    λ same. AllPairs-head Differ p ps once k e within
    (same ∙ sym of_item ∙ ap (λ (g : Entry). g.item) (sym here)) in
    let stays : others i (p ∷ ps) ≡ p ∷ others i ps =
    cond-true (not (eqb p.item i)) (p ∷ others i ps) (others i ps) (ap not (ne_eqb p.item i differs)) in
    let rest = of_one f i ps e (AllPairs-tail Differ p ps once) (k, within, here) of_item in
    omega (
      arith,
      ap (λ (es : List Entry). sum_by (entry_left f) es) stays,
      sum_by-cons (entry_left f) p
          (others i ps),
      sum_by-cons (entry_left f) p ps,
      rest,
    )

-- ---- lanes

put : (f : ℕ → ℕ) (lane : Lane) (c : ℕ) (o : Option Running) → c ≤ length lane.helping
    → lane_left f (with_run_by lane c o) + run_left f (run_by lane c) ≡ lane_left f lane + run_left f o
put f lane zero o le = omega arith
put f lane (suc h) o le = omega (arith, sum_by-set (run_left f) lane.helping h o None (omega arith))

-- the sum stays the same while an entry of the item still runs
kept : (f : ℕ → ℕ) (lane : Lane) (c : ℕ) (r new : Running) (o : Option Running) → RunsIn lane c r → o ≡ Some new
    → new.entry ≡ r.entry → lane_left f (with_run_by lane c o) ≡ lane_left f lane
kept f lane c r new o runs is same =
    let one : run_left f o ≡ f new.entry.item = ap (run_left f) is in
    let was : run_left f (run_by lane c) ≡ f r.entry.item = ap (run_left f) runs in
    let also : f new.entry.item ≡ f r.entry.item = ap (λ (e : Entry). f e.item) same in
    omega (arith, put f lane c o (runs_place lane c r runs), one, was, also)

module _ (f : ℕ → ℕ) (c i : ℕ) (lane : Lane) (once : AllPairs Differ lane.pending) (may : MayStart lane c i) where
  abbrev remaining : Lane
  remaining = record lane { pending = others i lane.pending }

  started : c ≤ length lane.helping → lane_left f (with_started c i lane) ≡ lane_left f lane
  started le =
      let (g, at, there, item) = found-pending lane.pending i may.entry may.pending may.of_item in
      let idle : run_left f (run_by remaining c) ≡ 0 =
      ap (run_left f) (same_run lane (others i lane.pending) c ∙ may.idle) in
      let all = put f remaining c (Some (begun g)) le in
      let one = of_one f i lane.pending g once there item in
      let whole : f g.item ≡ f i = ap f item in
      let new : lane_left f (with_run_by remaining c (Some (begun g))) ≡ lane_left f lane =
      omega (arith, all, idle, one, whole) in
      subst (λ (o : Option Running). lane_left f (with_run_by remaining c o) ≡ lane_left f lane)
      (sym (ap (option_map begun) at)) new

-- ---- states

changed : (f : ℕ → ℕ) (s : State) (q : ℕ) (lane : Lane) → q < length s.lanes
    → left f (with_lane s q lane) + lane_left f (lane_at s q) ≡ left f s + lane_left f lane
changed f s q lane within = sum_by-set (lane_left f) s.lanes q lane idle_lane within

-- what a deed of a context takes away
abbrev pub deed_takes : (ℕ → ℕ) → HelpStep → ℕ
deed_takes f (DoFinish i) = f i
deed_takes f _ = 0

module _ (f : ℕ → ℕ) (w : Wiring) (s : State) (sound : IsSoundState w s) (q c : ℕ) where
  abbrev own : Lane
  own = lane_at s q

  same-lane : (lane : Lane) → q < length s.lanes → lane_left f lane ≡ lane_left f own
      → left f (with_lane s q lane) + 0 ≡ left f s
  same-lane lane within same = omega (arith, changed f s q lane within, same)

  left-deed : (deed : HelpStep) → c ≤ length own.helping → MayDo w s q c deed
      → left f (done_by s q c deed) + deed_takes f deed ≡ left f s
  left-deed (DoStart i) place may =
      same-lane (with_started c i own) (lane_within s q may.entry (inl may.pending))
      (started f c i own (sound.once q) may place)
  left-deed (DoWait b) place (r, runs, may) =
      same-lane (with_wait c false b s.next own) (runs_within s q c r runs)
      (kept f own c r (waiting_for false b s.next r) (option_map (waiting_for false b s.next) (run_by own c)) runs
      (ap (option_map (waiting_for false b s.next)) runs) refl)
  left-deed (DoWaitAll b) place (r, runs, may) =
      same-lane (with_wait c true b s.next own) (runs_within s q c r runs)
      (kept f own c r (waiting_for true b s.next r) (option_map (waiting_for true b s.next) (run_by own c)) runs
      (ap (option_map (waiting_for true b s.next)) runs) refl)
  left-deed (DoOver b) place (r, runs, may) =
      same-lane (with_over c own) (runs_within s q c r runs)
      (kept f own c r (going_on r) (option_map going_on (run_by own c)) runs (ap (option_map going_on) runs) refl)
  left-deed (DoOverAll b) place (r, runs, may) =
      same-lane (with_over c own) (runs_within s q c r runs)
      (kept f own c r (going_on r) (option_map going_on (run_by own c)) runs (ap (option_map going_on) runs) refl)
  left-deed (DoFinish i) place (r, runs, may) =
      let was : run_left f (run_by own c) ≡ f r.entry.item = ap (run_left f) runs in
      let item : f r.entry.item ≡ f i = ap f may.entry in
      omega (
        arith,
        changed f s q (with_finished c own) (runs_within s q c r runs),
        put f own c None
            (runs_place own c r runs),
        was,
        item,
      )

-- ---- steps

-- what a step adds, and what it takes away
abbrev pub adds : (ℕ → ℕ) → Step → ℕ
adds f (Queue i) = f i
adds f _ = 0

abbrev pub takes : (ℕ → ℕ) → Step → ℕ
takes f (Cancel i) = f i
takes f (Finish q i) = f i
takes f (Help q h deed) = deed_takes f deed
takes f _ = 0

module _ (f : ℕ → ℕ) (w : Wiring) (s : State) (wiring : IsWiring w) (sound : IsSoundState w s)
    (few : w.helpers ≤ max_helpers) where
  helper_place : (q h : ℕ) → HasHelper w q h → h ≤ length (lane_at s q).helping
  helper_place q h has = omega (arith, has.1, helpers_of-few w q, few, sound.places q)

  pub left_effect : (step : Step) → Lawful w s step → left f (effect w s step) + takes f step ≡ left f s + adds f step
  left_effect (Queue i) lawful =
      let q : ℕ = lane_of w i in
      let e : Entry = record { number = s.next; item = i } in
      let more : lane_left f (with_queued e (lane_at s q)) ≡ lane_left f (lane_at s q) + f i =
      omega (arith, sum_by-append (entry_left f) (lane_at s q).pending (e ∷ []), sum_by-cons (entry_left f) e []) in
      omega (arith, changed f s q (with_queued e (lane_at s q)) (lane_of-within w s i wiring sound lawful.0), more)
  left_effect (Cancel i) lawful =
      let q : ℕ = lane_of w i in
      let mine : lawful.lane ≡ q = (pending-own_lane w s i sound lawful).1 in
      let there : Contains (lane_at s q).pending lawful.entry =
      subst (λ (p : ℕ). Contains (lane_at s p).pending lawful.entry) mine lawful.pending in
      let less : lane_left f (with_cancelled i (lane_at s q)) + f i ≡ lane_left f (lane_at s q) =
      omega (arith, of_one f i (lane_at s q).pending lawful.entry (sound.once q) there lawful.of_item) in
      omega (arith, changed f s q (with_cancelled i (lane_at s q)) (lane_within s q lawful.entry (inl there)), less)
  left_effect (Start q i) lawful =
      omega (arith, left-deed f w s sound q 0 (DoStart i) (omega arith) (MayStart-first (lane_at s q) i lawful))
  left_effect (Wait q b) lawful = omega (arith, left-deed f w s sound q 0 (DoWait b) (omega arith) lawful)
  left_effect (Over q b) lawful = omega (arith, left-deed f w s sound q 0 (DoOver b) (omega arith) lawful)
  left_effect (WaitAll q b) lawful = omega (arith, left-deed f w s sound q 0 (DoWaitAll b) (omega arith) lawful)
  left_effect (OverAll q b) lawful = omega (arith, left-deed f w s sound q 0 (DoOverAll b) (omega arith) lawful)
  left_effect (Finish q i) lawful = omega (arith, left-deed f w s sound q 0 (DoFinish i) (omega arith) lawful)
  left_effect (Help q h deed) lawful =
      omega (arith, left-deed f w s sound q h deed (helper_place q h lawful.0) lawful.1)
