-- Each step of a context reduces the work that is left, and a cancellation doesn't increase it.
use Rattle.std.proofs.Common.{◌≡◌, ◌≢◌, ℕ, zero, suc, ◌+◌, ◌-◌, ◌<◌, ◌≤◌, ◌⊎◌, inl, inr, Bool, cond, not, eqb, List, [], ◌∷◌, length, get_or, set, Option, Some, None, refl, sym, ap, subst, ◌∙◌, arith, true, false}
use Rattle.std.specs.Prelude.{AllPairs, Contains, option_map, sum_by}
use Rattle.std.specs.List.{All, count_by, filter}
use Rattle.std.proofs.lemmas.Bool.{cases_lt, cond-true, cond-false, eq-eqb, ne_eqb}
use Rattle.std.proofs.lemmas.List.{set_past}
use Rattle.std.proofs.lemmas.List.Elements.{All-head, All-tail}
use Rattle.std.proofs.lemmas.List.Filters.{sum_by-filter_both}
use Rattle.std.proofs.lemmas.List.Sums.{sum_by-cons, sum_by-set}
use Rattle.wq_items.proofs.Lists.{AllPairs-head, AllPairs-tail}
use Rattle.wq_core.specs.declared.entry.Entry.{Entry}
use Rattle.wq_core.specs.declared.entry.Waiting.{Waiting}
use Rattle.wq_core.specs.declared.entry.Running.{Running}
use Rattle.wq_core.specs.declared.step.Step.{Step}
use Rattle.wq_core.specs.declared.step.Step.TheVariants.{Queue, Cancel, Start, Wait, Over, WaitAll, OverAll, Finish, Help}
use Rattle.wq_core.specs.declared.step.HelpStep.{HelpStep}
use Rattle.wq_core.specs.declared.step.HelpStep.TheVariants.{Start as DoStart, Wait as DoWait, WaitAll as DoWaitAll, Over as DoOver, OverAll as DoOverAll, Finish as DoFinish}
use Rattle.wq_core.specs.Wiring.{Wiring, lane_of, declared_by}
use Rattle.wq_core.specs.State.{Lane, State, idle_lane, lane_at, with_lane, run_by, with_run_by, RunsIn, pending_of}
use Rattle.wq_core.specs.Rules.{MayWait, MayStart, MayDo, Lawful, begun, waiting_for, going_on, with_cancelled, with_started, with_wait, with_over, with_finished, done_by, effect}
use Rattle.wq_core.specs.Runs.{IsRunFrom, IsRun, end_of, IsRescuerStep, IsCancel, is_rescuer_step}
use Rattle.wq_core.specs.Work.{whole_work, waits_over, running_work, lane_work, work_left}
use Rattle.wq_core.specs.Held.{IsSoundRunning, IsSoundState}
use Rattle.wq_core.proofs.LaneLemmas.{lane_within, runs_within}
use Rattle.wq_core.proofs.Contexts.{found-pending, MayStart-first, runs_place, run_by_past, same_run}
use Rattle.wq_core.proofs.Sound.{Differ, IsSoundState-effect, IsSoundState-end_of}

-- ---- pending entries

-- what is left of them
abbrev pub pending_work : Wiring → List Entry → ℕ
pending_work w es = sum_by (λ (e : Entry). whole_work w e.item) es

-- the entries of other items
abbrev others : ℕ → List Entry → List Entry
others i ps = filter (λ (e : Entry). not (eqb e.item i)) ps

work_of_others : (w : Wiring) (i : ℕ) (ps : List Entry) → All (λ (e : Entry). e.item ≢ i) ps → pending_work w (others i ps) ≡ pending_work w ps
work_of_others w i [] each = refl
work_of_others w i (p ∷ ps) each =
    let work : Entry → ℕ = λ (e : Entry). whole_work w e.item in
    let differs : eqb p.item i ≡ false = ne_eqb p.item i (each 0 p (omega arith)) in
    let stays : others i (p ∷ ps) ≡ p ∷ others i ps = cond-true (not (eqb p.item i)) (p ∷ others i ps) (others i ps) (ap not differs) in
    let rest : pending_work w (others i ps) ≡ pending_work w ps = work_of_others w i ps (λ k d lt. each (suc k) d (omega arith)) in
    omega (arith, ap (pending_work w) stays, sum_by-cons work p (others i ps), sum_by-cons work p ps, rest)

-- the work without the one entry of an item
work_of_one : (w : Wiring) (i : ℕ) (ps : List Entry) (e : Entry) → AllPairs Differ ps → Contains ps e → e.item ≡ i
    → pending_work w (others i ps) + whole_work w i ≡ pending_work w ps
work_of_one w i [] e once (k, lt, at) of_item = absurd (omega arith)
work_of_one w i (p ∷ ps) e once (zero, lt, at) of_item =
    let work : Entry → ℕ = λ (f : Entry). whole_work w f.item in
    let same : p.item ≡ i = ap (λ (f : Entry). f.item) at ∙ of_item in
    let goes : others i (p ∷ ps) ≡ others i ps = cond-false (not (eqb p.item i)) (p ∷ others i ps) (others i ps) (ap not (eq-eqb p.item i same)) in
    let none : All (λ (f : Entry). f.item ≢ i) ps = λ k d within is. AllPairs-head Differ p ps once k d within (same ∙ sym is) in
    omega (arith, ap (pending_work w) goes, work_of_others w i ps none, sum_by-cons work p ps, ap (whole_work w) same)
work_of_one w i (p ∷ ps) e once (suc k, lt, at) of_item =
    let work : Entry → ℕ = λ (f : Entry). whole_work w f.item in
    let here : get_or ps k e ≡ e = at in
    let within : k < length ps = omega arith in
    let differs : p.item ≢ i = λ same. AllPairs-head Differ p ps once k e within (same ∙ sym of_item ∙ ap (λ (f : Entry). f.item) (sym here)) in
    let stays : others i (p ∷ ps) ≡ p ∷ others i ps = cond-true (not (eqb p.item i)) (p ∷ others i ps) (others i ps) (ap not (ne_eqb p.item i differs)) in
    let rest : pending_work w (others i ps) + whole_work w i ≡ pending_work w ps = work_of_one w i ps e (AllPairs-tail Differ p ps once) (k, within, here) of_item in
    omega (arith, ap (pending_work w) stays, sum_by-cons work p (others i ps), sum_by-cons work p ps, rest)

-- ---- what a context runs

lane_work-run_by : (w : Wiring) (lane : Lane) (c : ℕ) (o : Option Running) → c ≤ length lane.helping
    → lane_work w (with_run_by lane c o) + running_work w (run_by lane c) ≡ lane_work w lane + running_work w o
lane_work-run_by w lane zero o le = omega arith
lane_work-run_by w lane (suc h) o le = omega (arith, sum_by-set (running_work w) lane.helping h o None (omega arith))

-- this much less is left of what the context runs
lane_work-less_by : (w : Wiring) (lane : Lane) (c : ℕ) (o : Option Running) (less : ℕ) → c ≤ length lane.helping
    → running_work w o + less ≡ running_work w (run_by lane c) → lane_work w (with_run_by lane c o) + less ≡ lane_work w lane
lane_work-less_by w lane c o less le by = omega (arith, lane_work-run_by w lane c o le, by)

-- what is left of a running entry that doesn't wait, and of one that does
running_work-awake : (w : Wiring) (o : Option Running) (r : Running) → o ≡ Some r → r.waiting ≡ None
    → running_work w o ≡ whole_work w r.entry.item - (1 + r.made + r.made)
running_work-awake w o r runs awake =
    ap (running_work w) runs ∙ ap (λ (f : Option Waiting). whole_work w r.entry.item - (1 + r.made + waits_over r.made f)) awake

running_work-waiting : (w : Wiring) (o : Option Running) (r : Running) (flush : Waiting) → o ≡ Some r → r.waiting ≡ Some flush
    → running_work w o ≡ whole_work w r.entry.item - (1 + r.made + (r.made - 1))
running_work-waiting w o r flush runs waits =
    ap (running_work w) runs ∙ ap (λ (f : Option Waiting). whole_work w r.entry.item - (1 + r.made + waits_over r.made f)) waits

-- ---- lanes

-- the work of a lane without an item's one entry
pub lane_work-cancelled : (w : Wiring) (i : ℕ) (lane : Lane) (e : Entry) → AllPairs Differ lane.pending → Contains lane.pending e → e.item ≡ i
    → lane_work w (with_cancelled i lane) + whole_work w i ≡ lane_work w lane
lane_work-cancelled w i lane e once there of_item = omega (arith, work_of_one w i lane.pending e once there of_item)

lane_work-cancelled_at_most : (w : Wiring) (i : ℕ) (lane : Lane) → lane_work w (with_cancelled i lane) ≤ lane_work w lane
lane_work-cancelled_at_most w i lane =
    let passes : Entry → Bool = λ (e : Entry). not (eqb e.item i) in
    let work : Entry → ℕ = λ (e : Entry). whole_work w e.item in
    omega (arith, sum_by-filter_both passes (λ (e : Entry). not (passes e)) (λ e. refl) work lane.pending)

-- where the entry of an item is started by a context, its start is made
module _ (w : Wiring) (c i : ℕ) (lane : Lane) (once : AllPairs Differ lane.pending) (may : MayStart lane c i) where
  abbrev remaining : Lane
  remaining = record lane { pending = others i lane.pending }

  rest_idle : running_work w (run_by remaining c) ≡ 0
  rest_idle = ap (running_work w) (same_run lane (others i lane.pending) c ∙ may.idle)

  pub lane_work-started : c ≤ length lane.helping → lane_work w (with_started c i lane) + 1 ≡ lane_work w lane
  lane_work-started le =
      let (f, at, there, item) = found-pending lane.pending i may.entry may.pending may.of_item in
      let put = lane_work-run_by w remaining c (Some (begun f)) le in
      let one = work_of_one w i lane.pending f once there item in
      let whole : whole_work w f.item ≡ whole_work w i = ap (whole_work w) item in
      let new : lane_work w (with_run_by remaining c (Some (begun f))) + 1 ≡ lane_work w lane = omega (arith, put, rest_idle, one, whole) in
      subst (λ (o : Option Running). lane_work w (with_run_by remaining c o) + 1 ≡ lane_work w lane) (sym (ap (option_map begun) at)) new

  lane_work-started_less : lane_work w (with_started c i lane) < lane_work w lane
  lane_work-started_less = elim (cases_lt (length lane.helping) c) [
    | inl past ↦ (
        let one = work_of_one w i lane.pending may.entry once may.pending may.of_item in
        let less : lane_work w remaining < lane_work w lane = omega (arith, one) in
        subst (λ (l : Lane). lane_work w l < lane_work w lane) (sym (run_by_past remaining c (option_map begun (pending_of lane i)) past)) less
        )
    | inr within ↦ omega (arith, lane_work-started within)
  ]

pub lane_work-waiting : (w : Wiring) (c : ℕ) (whole : Bool) (b mark : ℕ) (lane : Lane) (r : Running) → RunsIn lane c r → MayWait w whole b r
    → lane_work w (with_wait c whole b mark lane) + 1 ≡ lane_work w lane
lane_work-waiting w c whole b mark lane r runs may =
    let o : Option Running = run_by lane c in
    let flush : Waiting = record { target = b; whole = whole; mark = mark } in
    let before = running_work-awake w o r runs may.awake in
    let new = running_work-waiting w (option_map (waiting_for whole b mark) o) (waiting_for whole b mark r) flush (ap (option_map (waiting_for whole b mark)) runs) refl in
    let fewer : r.made < length (declared_by w r.entry.item) = may.fewer in
    lane_work-less_by w lane c (option_map (waiting_for whole b mark) o) 1 (runs_place lane c r runs) (omega (arith, before, new, fewer))

pub lane_work-over : (w : Wiring) (c : ℕ) (lane : Lane) (r : Running) (flush : Waiting) → RunsIn lane c r → r.waiting ≡ Some flush
    → IsSoundRunning w r → lane_work w (with_over c lane) + 1 ≡ lane_work w lane
lane_work-over w c lane r flush runs waits sound =
    let o : Option Running = run_by lane c in
    let before = running_work-waiting w o r flush runs waits in
    let new = running_work-awake w (option_map going_on o) (going_on r) (ap (option_map going_on) runs) refl in
    let made : r.made ≤ length (declared_by w r.entry.item) = sound.made in
    let some : 0 < r.made = (sound.waits flush waits).0 in
    lane_work-less_by w lane c (option_map going_on o) 1 (runs_place lane c r runs) (omega (arith, before, new, made, some))

-- all that is left of what it runs goes
pub lane_work-finished : (w : Wiring) (c : ℕ) (lane : Lane) (r : Running) → RunsIn lane c r
    → lane_work w (with_finished c lane) + running_work w (run_by lane c) ≡ lane_work w lane
lane_work-finished w c lane r runs = omega (arith, lane_work-run_by w lane c None (runs_place lane c r runs))

-- which is at least the finish
running_work-some : (w : Wiring) (o : Option Running) (r : Running) → o ≡ Some r → r.waiting ≡ None → IsSoundRunning w r → 0 < running_work w o
running_work-some w o r runs awake sound =
    let made : r.made ≤ length (declared_by w r.entry.item) = sound.made in
    omega (arith, running_work-awake w o r runs awake, made)

-- ---- states

pub work_left-with_lane : (w : Wiring) (s : State) (q : ℕ) (lane : Lane) → q < length s.lanes
    → work_left w (with_lane s q lane) + lane_work w (lane_at s q) ≡ work_left w s + lane_work w lane
work_left-with_lane w s q lane within = sum_by-set (lane_work w) s.lanes q lane idle_lane within

work_left-less : (w : Wiring) (s : State) (q : ℕ) (lane : Lane) → q < length s.lanes
    → lane_work w lane < lane_work w (lane_at s q) → work_left w (with_lane s q lane) < work_left w s
work_left-less w s q lane within less = omega (arith, work_left-with_lane w s q lane within, less)

work_left-not_more : (w : Wiring) (s : State) (q : ℕ) (lane : Lane) → lane_work w lane ≤ lane_work w (lane_at s q)
    → work_left w (with_lane s q lane) ≤ work_left w s
work_left-not_more w s q lane less = elim (cases_lt q (length s.lanes)) [
  | inl within ↦ omega (arith, work_left-with_lane w s q lane within, less)
  | inr past ↦ (
      let same : set s.lanes q lane ≡ s.lanes = set_past s.lanes q lane past in
      omega (arith, ap (λ (ls : List Lane). sum_by (lane_work w) ls) same)
      )
]

-- after a deed of a context less work is left
module _ (w : Wiring) (s : State) (sound : IsSoundState w s) (q c : ℕ) where
  abbrev own : Lane
  own = lane_at s q

  wait-less : (whole : Bool) (b : ℕ) (r : Running) → RunsIn own c r → MayWait w whole b r
      → work_left w (with_lane s q (with_wait c whole b s.next own)) < work_left w s
  wait-less whole b r runs may =
      work_left-less w s q (with_wait c whole b s.next own) (runs_within s q c r runs) (omega (arith, lane_work-waiting w c whole b s.next own r runs may))

  over-less : (r : Running) (flush : Waiting) → RunsIn own c r → r.waiting ≡ Some flush → work_left w (with_lane s q (with_over c own)) < work_left w s
  over-less r flush runs waits =
      work_left-less w s q (with_over c own) (runs_within s q c r runs) (omega (arith, lane_work-over w c own r flush runs waits (sound.running q c r runs)))

  deed-less : (deed : HelpStep) → MayDo w s q c deed → work_left w (done_by s q c deed) < work_left w s
  deed-less (DoStart i) may =
      work_left-less w s q (with_started c i own) (lane_within s q may.entry (inl may.pending)) (lane_work-started_less w c i own (sound.once q) may)
  deed-less (DoWait b) (r, runs, may) = wait-less false b r runs may
  deed-less (DoWaitAll b) (r, runs, may) = wait-less true b r runs may
  deed-less (DoOver b) (r, runs, may) = over-less r may.flush runs may.waits
  deed-less (DoOverAll b) (r, runs, may) = over-less r may.flush runs may.waits
  deed-less (DoFinish i) (r, runs, may) =
      let some = running_work-some w (run_by own c) r runs may.awake (sound.running q c r runs) in
      work_left-less w s q (with_finished c own) (runs_within s q c r runs) (omega (arith, lane_work-finished w c own r runs, some))

-- after a step of a context less work is left
pub work_left-rescuer : (w : Wiring) (s : State) (step : Step) → IsSoundState w s → Lawful w s step
    → IsRescuerStep step → work_left w (effect w s step) < work_left w s
work_left-rescuer w s (Queue i) sound lawful is = absurd is
work_left-rescuer w s (Cancel i) sound lawful is = absurd is
work_left-rescuer w s (Start q i) sound lawful is = deed-less w s sound q 0 (DoStart i) (MayStart-first (lane_at s q) i lawful)
work_left-rescuer w s (Wait q b) sound lawful is = deed-less w s sound q 0 (DoWait b) lawful
work_left-rescuer w s (WaitAll q b) sound lawful is = deed-less w s sound q 0 (DoWaitAll b) lawful
work_left-rescuer w s (Over q b) sound lawful is = deed-less w s sound q 0 (DoOver b) lawful
work_left-rescuer w s (OverAll q b) sound lawful is = deed-less w s sound q 0 (DoOverAll b) lawful
work_left-rescuer w s (Finish q i) sound lawful is = deed-less w s sound q 0 (DoFinish i) lawful
work_left-rescuer w s (Help q h deed) sound lawful is = deed-less w s sound q h deed lawful.1

-- after a cancellation no more work is left
pub work_left-cancel : (w : Wiring) (s : State) (step : Step) → IsCancel step
    → work_left w (effect w s step) ≤ work_left w s
work_left-cancel w s (Queue i) is = absurd is
work_left-cancel w s (Cancel i) is =
    let q : ℕ = lane_of w i in
    work_left-not_more w s q (with_cancelled i (lane_at s q)) (lane_work-cancelled_at_most w i (lane_at s q))
work_left-cancel w s (Start q i) is = absurd is
work_left-cancel w s (Wait q b) is = absurd is
work_left-cancel w s (Over q b) is = absurd is
work_left-cancel w s (WaitAll q b) is = absurd is
work_left-cancel w s (OverAll q b) is = absurd is
work_left-cancel w s (Finish q i) is = absurd is
work_left-cancel w s (Help q h deed) is = absurd is

-- ---- runs

-- what the step counts for
abbrev counted : Step → ℕ
counted step = cond (is_rescuer_step step) 1 0

counted-rescuer : (step : Step) → IsRescuerStep step → counted step ≡ 1
counted-rescuer (Queue i) is = absurd is
counted-rescuer (Cancel i) is = absurd is
counted-rescuer (Start q i) is = refl
counted-rescuer (Wait q b) is = refl
counted-rescuer (Over q b) is = refl
counted-rescuer (WaitAll q b) is = refl
counted-rescuer (OverAll q b) is = refl
counted-rescuer (Finish q i) is = refl
counted-rescuer (Help q h deed) is = refl

counted-cancel : (step : Step) → IsCancel step → counted step ≡ 0
counted-cancel (Queue i) is = absurd is
counted-cancel (Cancel i) is = refl
counted-cancel (Start q i) is = absurd is
counted-cancel (Wait q b) is = absurd is
counted-cancel (Over q b) is = absurd is
counted-cancel (WaitAll q b) is = absurd is
counted-cancel (OverAll q b) is = absurd is
counted-cancel (Finish q i) is = absurd is
counted-cancel (Help q h deed) is = absurd is

-- a step and the work that is left after it
step_bound : (w : Wiring) (s : State) (step : Step) → IsSoundState w s → Lawful w s step
    → IsRescuerStep step ⊎ IsCancel step → counted step + work_left w (effect w s step) ≤ work_left w s
step_bound w s step sound lawful (inl rescuer) =
    let one : counted step ≡ 1 = counted-rescuer step rescuer in
    let less : work_left w (effect w s step) < work_left w s = work_left-rescuer w s step sound lawful rescuer in
    omega (arith, one, less)
step_bound w s step sound lawful (inr cancel) =
    let none : counted step ≡ 0 = counted-cancel step cancel in
    let less : work_left w (effect w s step) ≤ work_left w s = work_left-cancel w s step cancel in
    omega (arith, none, less)

pub count_by-rescuer_steps : (w : Wiring) (s : State) (more : List Step) → IsSoundState w s
    → All (λ (step : Step). IsRescuerStep step ⊎ IsCancel step) more → IsRunFrom w s more
    → count_by is_rescuer_step more ≤ work_left w s
count_by-rescuer_steps w s [] sound each run = omega arith
count_by-rescuer_steps w s (step ∷ more) sound each run =
    let Kind : Step → Type 0 = λ (x : Step). IsRescuerStep x ⊎ IsCancel x in
    let all : count_by is_rescuer_step (step ∷ more) ≡ counted step + count_by is_rescuer_step more =
    sum_by-cons counted step more in
    let first : counted step + work_left w (effect w s step) ≤ work_left w s =
    step_bound w s step sound run.0 (All-head Kind step more each) in
    let next : IsSoundState w (effect w s step) = IsSoundState-effect w s step sound run.0 in
    let rest : count_by is_rescuer_step more ≤ work_left w (effect w s step) =
    count_by-rescuer_steps w (effect w s step) more next (All-tail Kind step more each) run.1 in
    omega (arith, all, first, rest)

pub count_by-rescuer_steps_after : (w : Wiring) (steps more : List Step) → IsRun w steps
    → All (λ (step : Step). IsRescuerStep step ⊎ IsCancel step) more → IsRunFrom w (end_of w steps) more
    → count_by is_rescuer_step more ≤ work_left w (end_of w steps)
count_by-rescuer_steps_after w steps more run each on =
    count_by-rescuer_steps w (end_of w steps) more (IsSoundState-end_of w steps run) each on
