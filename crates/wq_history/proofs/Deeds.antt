-- What contexts do: the steps and events of it, when these may come, and what they are about.
use Rattle.std.proofs.Common.{◌≡◌, ◌≢◌, ℕ, zero, suc, ◌<◌, ◌≤◌, inl, inr, Bool, true, false, List, refl, sym, subst}
use Rattle.std.proofs.Common.{◌∙◌, arith, Option, Some, None, IfNone, ◌↔◌, IsTrue}
use Rattle.std.specs.Bool.{beq}
use Rattle.std.proofs.lemmas.Bool.Decides.{same_from_decides}
use Rattle.wq_history.proofs.Words.{Entry, Waiting, Running, HelperStep, HelpStep, DoStart, DoWait, DoWaitAll, DoOver}
use Rattle.wq_history.proofs.Words.{DoOverAll, DoFinish, Wiring, IsWiring, max_helpers, HasContext, HasHelper, items}
use Rattle.wq_history.proofs.Words.{lane_of, State, lane_at, run_by, next_of, is_running, RunsIn, Lawful, Gives, MayDo}
use Rattle.wq_history.proofs.Words.{MayWait, MayBeOver, IsHeldBack, step_in, deed_item, wait_deed, over_deed}
use Rattle.wq_history.proofs.Words.{IsSoundState, Machine, IsMachine, Event, Row, step_of, event_in, SaysUnfinishedOf}
use Rattle.wq_history.proofs.Words.{Says, MayComeIn, MayCome, subject_of, rows_needed, BookView, state, IsWaiting}
use Rattle.wq_core.proofs.Contexts.{helpers_of-few, next-may}
use Rattle.wq_core.proofs.Safety.{lawful-step_in}
use Rattle.wq_core.proofs.LawfulSteps.{waiting-target}
use Rattle.wq_core.proofs.Wirings.{lane_of-within}
use Rattle.wq_rows.specs.declared.event.Event.TheVariants.{Start, Over, Finish, Told, OverAll, ToldLane, Help}
use Rattle.wq_rows.specs.Packing.{HelpMayAnswer, MayAnswer}
use Rattle.wq_history.proofs.WaitEvents.{declared-item}

-- ---- steps and events

pub step_of-event_in : (q c : ℕ) (deed : HelpStep) (said : Bool) → step_of (event_in q c deed) said ≡ Some (step_in q c deed)
step_of-event_in q zero (DoStart i) said = refl
step_of-event_in q zero _ said = refl
step_of-event_in q (suc h) deed said = refl

pub helper-event : (q c : ℕ) (deed : HelpStep) → c ≢ 0 → Help q c deed ≡ event_in q c deed
helper-event q zero deed some = absurd (some refl)
helper-event q (suc h) deed some = refl

-- no row need be free
pub no_rows-event_in : (w : Wiring) (q c : ℕ) (deed : HelpStep) (said : Bool) → rows_needed w (event_in q c deed) said ≡ 0
no_rows-event_in w q zero (DoStart i) said = refl
no_rows-event_in w q zero _ said = refl
no_rows-event_in w q (suc h) deed said = refl

-- an event may come with what its deed says and the number of its step, if that is lawful
pub deed_may_come : (w : Wiring) (s : State) (waiting q c : ℕ) (deed : HelpStep) (said : Bool) (n : ℕ) → Says w s deed said
    → Lawful w s (step_in q c deed) → Gives s (step_in q c deed) n → MayComeIn w s waiting (event_in q c deed) said n
deed_may_come w s waiting q zero (DoStart i) said n says lawful gives = (says, (lawful, gives))
deed_may_come w s waiting q zero _ said n says lawful gives = (says, (lawful, gives))
deed_may_come w s waiting q (suc h) deed said n says lawful gives = (says, (lawful, gives))

-- ---- what a deed says

pub wait_says : (w : Wiring) (s : State) (whole : Bool) (b : ℕ) (said : Bool)
    → SaysUnfinishedOf s (subject_of w whole b) said → Says w s (wait_deed whole b) said
wait_says w s false b said says = says
wait_says w s true b said says = says

pub over_says : (w : Wiring) (s : State) (whole : Bool) (b : ℕ) → Says w s (over_deed whole b) true
over_says w s false b = refl
over_says w s true b = refl

-- it says one thing
pub says_one : (w : Wiring) (s : State) (deed : HelpStep) (x y : Bool) → Says w s deed x → Says w s deed y → x ≡ y
says_one w s deed x y a b = by_deed deed a b where
  by_deed : (d : HelpStep) → Says w s d x → Says w s d y → x ≡ y
  by_deed (DoWait t) a b = same_from_decides x y a b
  by_deed (DoWaitAll t) a b = same_from_decides x y a b
  by_deed _ a b = a ∙ sym b

-- a word that is right is the one that is said exactly if that is right, too
pub same-word : (Said : Type 0) (x y : Bool) → IsTrue x ↔ Said → IsTrue (beq x y) ↔ (IsTrue y ↔ Said)
same-word Said true true right = ((λ same. right), (λ other. refl))
same-word Said true false right = ((λ same. absurd (let never : false ≡ true = same in cc)), (λ other. other.1 (right.0 refl)))
same-word Said false true right = ((λ same. absurd (let never : false ≡ true = same in cc)), (λ other. right.1 (other.0 refl)))
same-word Said false false right = ((λ same. right), (λ other. refl))

-- and its row may say that
says-answer : (w : Wiring) (s : State) (deed : HelpStep) (said : Bool) → Says w s deed said → HelpMayAnswer deed said
says-answer w s (DoWait b) said says = tt
says-answer w s (DoWaitAll b) said says = tt
says-answer w s _ said says = says

-- what may come can be packed
pub may-packable : (w : Wiring) (rows : List Row) (event : Event) (said : Bool) (n : ℕ) → w.helpers ≤ max_helpers → MayCome w rows event said n
    → MayAnswer event said
may-packable w rows (Start q i) said n few may = may.0
may-packable w rows (Over q b) said n few may = may.0
may-packable w rows (Finish q i) said n few may = may.0
may-packable w rows (Told i) said n few may = may.0
may-packable w rows (OverAll q b) said n few may = may.0
may-packable w rows (ToldLane q) said n few may = may.0
may-packable w rows (Help q h deed) said n few may =
    let has : HasHelper w q h = may.1.0.0 in
    ((has.0, omega (arith, has.1, helpers_of-few w q, few)), says-answer w _ deed said may.0)
may-packable w rows _ said n few may = tt

-- ---- what may be done is lawful

-- a helper of the lane is one of its contexts
has-helper : (w : Wiring) (q h : ℕ) → HasContext w q (suc h) → HasHelper w q (suc h)
has-helper w q h there = (omega arith, there.1)

pub start_is_lawful : (w : Wiring) (s : State) (q c : ℕ) (e : Entry) → HasContext w q c → run_by (lane_at s q) c ≡ None
    → next_of (lane_at s q) ≡ Some e → Lawful w s (step_in q c (DoStart e.item))
start_is_lawful w s q zero e there idle next = record { idle = idle; entry = e; first = next; of_item = refl }
start_is_lawful w s q (suc h) e there idle next =
    let may = next-may (lane_at s q).pending (is_running (lane_at s q)) e next in
    (has-helper w q h there, record { idle = idle; entry = e; pending = may.0; of_item = refl; not_running = may.1 })

pub wait_is_lawful : (w : Wiring) (s : State) (q c : ℕ) (whole : Bool) (b : ℕ) (r : Running) → HasContext w q c
    → RunsIn (lane_at s q) c r → MayWait w whole b r → Lawful w s (step_in q c (wait_deed whole b))
wait_is_lawful w s q c false b r there runs may = lawful-step_in w s q c (DoWait b) there.1 tt (r, runs, may)
wait_is_lawful w s q c true b r there runs may = lawful-step_in w s q c (DoWaitAll b) there.1 tt (r, runs, may)

over_lawful : (w : Wiring) (s : State) (q c : ℕ) (whole : Bool) (b : ℕ) (r : Running) → HasContext w q c
    → RunsIn (lane_at s q) c r → MayBeOver w s whole b r → Lawful w s (step_in q c (over_deed whole b))
over_lawful w s q c false b r there runs may = lawful-step_in w s q c (DoOver b) there.1 tt (r, runs, may)
over_lawful w s q c true b r there runs may = lawful-step_in w s q c (DoOverAll b) there.1 tt (r, runs, may)

-- the wait of a context may be over where nothing holds it back
pub over_is_lawful : (b : BookView) (q c : ℕ) (f : Waiting) → HasContext b.wiring q c → IsWaiting b q c f
    → ¬ IsHeldBack b.wiring (state b) f.whole f.target f.mark
    → Lawful b.wiring (state b) (step_in q c (over_deed f.whole f.target))
over_is_lawful b q c f there (r, runs, waits) done =
    over_lawful b.wiring (state b) q c f.whole f.target r there runs
    (record { flush = f; waits = waits; kind = refl; target = refl; done = done })

-- ---- answers by helper

-- what follows from there being no answer
pub none-weaker : {X : Type 0} (o : Option X) (P Q : Type 0) → (P → Q) → IfNone o P → IfNone o Q
none-weaker None P Q weaker is = weaker is
none-weaker (Some x) P Q weaker is = tt

-- ---- items and lanes

-- the lane of an item exists
pub own-lane : (w : Wiring) (i q : ℕ) → IsWiring w → i < items w → lane_of w i ≡ q → q < w.lanes
own-lane w i q wiring there own = subst (λ (k : ℕ). k < w.lanes) own (lane_of-within w wiring i there)

-- a context that runs something exists
pub runs-context : (w : Wiring) (s : State) (q c : ℕ) (r : Running) → IsWiring w → IsSoundState w s → RunsIn (lane_at s q) c r → HasContext w q c
runs-context w s q c r wiring sound runs =
    let own = sound.own_lane q r.entry (inr (c, r, runs, refl)) in
    (own-lane w r.entry.item q wiring own.0 own.1, sound.helpers q c r runs)

-- what a context may do is about an item that exists, on a lane that exists
pub deed-there : (w : Wiring) (s : State) (q c : ℕ) (deed : HelpStep) → IsWiring w → IsSoundState w s → MayDo w s q c deed
    → (deed_item deed < items w) × (q < w.lanes)
deed-there w s q c deed wiring sound may = by_deed deed may where
  lane : (r : Running) → RunsIn (lane_at s q) c r → q < w.lanes
  lane r runs = (runs-context w s q c r wiring sound runs).0

  target : (r : Running) (f : Waiting) → RunsIn (lane_at s q) c r → r.waiting ≡ Some f → f.target < items w
  target r f runs waits = waiting-target w s q c r f wiring sound runs waits

  by_deed : (d : HelpStep) → MayDo w s q c d → (deed_item d < items w) × (q < w.lanes)
  by_deed (DoStart i) may =
      let own = sound.own_lane q may.entry (inl may.pending) in
      (subst (λ (k : ℕ). k < items w) may.of_item own.0, own-lane w may.entry.item q wiring own.0 own.1)
  by_deed (DoWait b) (r, runs, wait) = (declared-item w false r.entry.item b wiring wait.declared, lane r runs)
  by_deed (DoWaitAll b) (r, runs, wait) = (declared-item w true r.entry.item b wiring wait.declared, lane r runs)
  by_deed (DoOver b) (r, runs, over) = (subst (λ (k : ℕ). k < items w) over.target (target r over.flush runs over.waits), lane r runs)
  by_deed (DoOverAll b) (r, runs, over) = (subst (λ (k : ℕ). k < items w) over.target (target r over.flush runs over.waits), lane r runs)
  by_deed (DoFinish i) (r, runs, end) =
      (subst (λ (k : ℕ). k < items w) end.entry (sound.own_lane q r.entry (inr (c, r, runs, refl))).0, lane r runs)

-- so a helper's step about an item that doesn't exist isn't lawful
pub not-there : (m : Machine) (q h : ℕ) (deed : HelpStep) → IsMachine m → items m.wiring ≤ deed_item deed → ¬ Lawful m.wiring m.state (HelperStep q h deed)
not-there m q h deed machine past lawful =
    let there = deed-there m.wiring m.state q h deed machine.wiring machine.state lawful.1 in
    omega (arith, past, there.0)
