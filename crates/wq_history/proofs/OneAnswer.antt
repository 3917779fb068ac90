-- A book has one answer to a call.
use Rattle.std.proofs.Common.{◌≡◌, ℕ, ◌<◌, ◌≤◌, ◌⊎◌, inl, inr, Bool, true, false, cond, ltb, [], ◌∷◌, ◌++◌, length}
use Rattle.std.proofs.Common.{refl, sym, ap, subst, ◌∙◌, arith, Some, None, Result, Ok, Err}
use Rattle.std.proofs.lemmas.Bool.{cond_below, cond_above}
use Rattle.wq_items.specs.Table.{ItemWaitsBy}
use Rattle.wq_history.proofs.Words.{Context, DoStart, DoWait, DoWaitAll, DoOver, DoOverAll, DoFinish, Running, items}
use Rattle.wq_history.proofs.Words.{declared_by, lane_at, RunsIn, MayWait, MayBeOver, IsHeldBack, Event, QueueEvent}
use Rattle.wq_history.proofs.Words.{CancelEvent, AskEvent, AskLaneEvent, Row, OfItem, OfLane, is_told, told_event}
use Rattle.wq_history.proofs.Words.{start_event, wait_event, over_event, finish_event, MayCome, rows_needed, BookView}
use Rattle.wq_history.proofs.Words.{state, free, IsBook, LacksRows, RunsItem, WaitsFor, HasNothingToStart}
use Rattle.wq_history.proofs.Words.{IsWrongToStart, IsNotAwake, CallError, HistoryFull, Closed, Undeclared}
use Rattle.wq_history.proofs.Words.{TooManyWaits, WrongLane, NotAsked, NoItem, Flush, Call, Queue, Cancel, Ask, Told}
use Rattle.wq_history.proofs.Words.{CancelSync, Start, Wait, Over, Finish, Close, Drain, Reply, Wrote, WroteTwo, Done}
use Rattle.wq_history.proofs.Words.{NotYet, IsUnfinishedBelow, RefusesToWait, RefusesIf, Refuses, IsRowOf, Writes}
use Rattle.wq_history.proofs.Words.{WritesTwo, IsEarly, Answers}
use Rattle.wq_core.specs.declared.entry.Waiting.{Waiting as WaitOf}
use Rattle.wq_core.proofs.LaneLemmas.{same_running, nothing_runs}
use Rattle.wq_history.proofs.KeptRows.{one_answer}
use Rattle.wq_history.specs.Calls.{IsDone}
use Rattle.wq_history.proofs.CallRows.{may-do, wrong-only, held-back, context-writes}
use Rattle.wq_history.proofs.Sleeping.{one-wait}
use Rattle.wq_history.proofs.WaitEvents.{told-exactly}
use Rattle.wq_history.proofs.Uniqueness.{comes, same-event, one-row}
use Rattle.wq_history.proofs.Upheld.{row-upheld}

-- ---- what a row of a context shows

pub wait-lawful : (b : BookView) (whole : Bool) (q c t : ℕ) (said : Bool) (n : ℕ)
    → MayCome b.wiring b.rows (wait_event whole q c t) said n
    → (r : Running) × RunsIn (lane_at (state b) q) c r × MayWait b.wiring whole t r
wait-lawful b false q c t said n may = may-do b q c (DoWait t) said n may
wait-lawful b true q c t said n may = may-do b q c (DoWaitAll t) said n may

over-lawful : (b : BookView) (whole : Bool) (q c t : ℕ) (said : Bool) (n : ℕ)
    → MayCome b.wiring b.rows (over_event whole q c t) said n
    → (r : Running) × RunsIn (lane_at (state b) q) c r × MayBeOver b.wiring (state b) whole t r
over-lawful b false q c t said n may = may-do b q c (DoOver t) said n may
over-lawful b true q c t said n may = may-do b q c (DoOverAll t) said n may

-- a context that has nothing to start may start
idle-wrong : (b : BookView) (c : Context) → HasNothingToStart b c.lane c.number → IsWrongToStart b c.lane c.number → ⊥
idle-wrong b c nothing (inl missing) = missing nothing.0
idle-wrong b c nothing (inr runs) = nothing_runs (lane_at (state b) c.lane) c.number nothing.1 runs.0 runs.1

-- the cause of a refusal that has just one
cause-of : (wrong : Type 0) (e : CallError) → RefusesIf wrong e → wrong
cause-of wrong e why = ((wrong-only wrong e).1 why).1

-- ---- a row excludes all else

over-early : (b : BookView) (c : Context) (f : Flush) (said : Bool) (n : ℕ)
    → MayCome b.wiring b.rows (over_event f.whole c.lane c.number f.target) said n
    → IsEarly b (Over c f) → ⊥
over-early b c f said n may early =
    let runs = over-lawful b f.whole c.lane c.number f.target said n may in
    let over = runs.2 in
    let with = early.1 in
    let same : with.0 ≡ over.flush = one-wait b c.lane c.number with.0 over.flush with.1.0
    (runs.0, runs.1, over.waits) in
    let marks : early.0 ≡ over.flush.mark = sym with.3 ∙ ap (λ (g : WaitOf). g.mark) same in
    over.done (subst (λ (m : ℕ). IsHeldBack b.wiring (state b) f.whole f.target m) marks
    ((held-back b.wiring (state b) f.whole f.target early.0).1 early.2))

module _ (b new : BookView) (row : Row) (writes : Writes b row new) where
  -- it may come, as that of its event
  may : (event : Event) → row.event ≡ event → MayCome b.wiring b.rows event row.yes row.number
  may event is = comes b new row event is writes

  row-early : (call : Call) → IsRowOf b call row → IsEarly b call → ⊥
  row-early (Told x mark) is early =
      ((told-exactly b.wiring b.rows x row.yes row.number).0 (may (told_event x) is.0)).2
      (subst (λ (m : ℕ). IsUnfinishedBelow (state b) x m) (sym is.1) early.1)
  row-early (Start c) is early = let bad : Some is.1.0 ≡ None = sym is.1.1 ∙ early.0.2 in absurd cc
  row-early (Over c f) is early =
      over-early b c f row.yes row.number (may (over_event f.whole c.lane c.number f.target) is) early
  row-early Drain is early = absurd is
  row-early _ is early = absurd early

  row-done : (call : Call) → IsRowOf b call row → IsDone b call → ⊥
  row-done (Start c) is done = let bad : Some is.1.0 ≡ None = sym is.1.1 ∙ done.0.2 in absurd cc
  row-done Close is done = absurd is
  row-done Drain is done = absurd is
  row-done _ is done = absurd done

  row-two : (next : BookView) (call : Call) (ask taken : Row) → IsRowOf b call row → WritesTwo b call ask taken next → ⊥
  row-two next (CancelSync i) ask taken is two = absurd is
  row-two next _ ask taken is two = absurd two

  -- it is written, so there was room for it
  lacking : (event : Event) → IsBook b → is_told event ≡ false → row.event ≡ event → LacksRows b event → ⊥
  lacking event book not_told is lacks =
      let same = one_answer b.wiring b.rows event row.yes lacks.0 row.number lacks.1 book.legal not_told
      (may event is) lacks.2 in
      let room : rows_needed b.wiring event row.yes ≤ free b =
      subst (λ (e : Event). rows_needed b.wiring e row.yes ≤ free b) is writes.room in
      let less : free b < rows_needed b.wiring event row.yes =
      subst (λ (k : Bool). free b < rows_needed b.wiring event k) (sym same.0) lacks.3 in
      absurd (omega (arith, room, less))

  row-start : (c : Context) → IsBook b → IsRowOf b (Start c) row → IsWrongToStart b c.lane c.number → ⊥
  row-start c book is (inl missing) =
      missing (context-writes b new c.lane c.number (DoStart is.0) row book is.2 writes).0
  row-start c book is (inr runs) =
      let start = may-do b c.lane c.number (DoStart is.0) row.yes row.number
      (may (start_event c.lane c.number is.0) is.2) in
      nothing_runs (lane_at (state b) c.lane) c.number start.idle runs.0 runs.1

  row-wait : (c : Context) (f : Flush) (e : CallError)
      → ((r : Running) × RunsIn (lane_at (state b) c.lane) c.number r × MayWait b.wiring f.whole f.target r)
      → RefusesToWait b c f e → ⊥
  row-wait c f WrongLane waits why = why waits.0 (waits.1, waits.2.awake)
  row-wait c f Undeclared waits why =
      let same : waits.0 ≡ why.0 = same_running (lane_at (state b) c.lane) c.number waits.0 why.0 waits.1 why.1.0 in
      why.2 (subst (λ (r : Running). ItemWaitsBy b.wiring.waits f.whole r.entry.item f.target) same waits.2.declared)
  row-wait c f TooManyWaits waits why =
      let same : waits.0 ≡ why.0 = same_running (lane_at (state b) c.lane) c.number waits.0 why.0 waits.1 why.1.0 in
      let fewer : why.0.made < length (declared_by b.wiring why.0.entry.item) =
      subst (λ (r : Running). r.made < length (declared_by b.wiring r.entry.item)) same waits.2.fewer in
      absurd (omega (arith, fewer, why.3))
  row-wait c f _ waits why = absurd why

  row-finish : (c : Context) (i : ℕ) → IsRowOf b (Finish c i) row
      → (¬ RunsItem b c.lane c.number i) ⊎ IsNotAwake b c.lane c.number → ⊥
  row-finish c i is why =
      let end = may-do b c.lane c.number (DoFinish i) row.yes row.number (may (finish_event c.lane c.number i) is) in
      elim why [
        | inl missing ↦ missing (end.0, end.1, end.2.entry)
        | inr asleep ↦ asleep end.0 (end.1, end.2.awake)
      ]

  row-refused : (call : Call) (e : CallError) → IsBook b → IsRowOf b call row → Refuses b call e → ⊥
  row-refused (Queue i) NoItem book is why =
      let come = may (QueueEvent i) is.0 in absurd (omega (arith, come.0, why))
  row-refused (Queue i) Closed book is why = let bad : true ≡ false = sym why.1 ∙ is.1 in absurd cc
  row-refused (Queue i) HistoryFull book is why = lacking (QueueEvent i) book refl is.0 why.2
  row-refused (Cancel i) NoItem book is why =
      let come = may (CancelEvent i) is in absurd (omega (arith, come.0, why))
  row-refused (Cancel i) HistoryFull book is why = lacking (CancelEvent i) book refl is why.1
  row-refused (Ask (OfItem i)) NoItem book is why =
      let come = may (AskEvent i) is in absurd (omega (arith, come.0, why))
  row-refused (Ask (OfItem i)) HistoryFull book is why = lacking (AskEvent i) book refl is why.1
  row-refused (Ask (OfLane q)) WrongLane book is why =
      let come = may (AskLaneEvent q) is in absurd (omega (arith, come.0, why))
  row-refused (Ask (OfLane q)) HistoryFull book is why = lacking (AskLaneEvent q) book refl is why.1
  row-refused (Told x mark) NotAsked book is why =
      let told = (told-exactly b.wiring b.rows x row.yes row.number).0 (may (told_event x) is.0) in
      absurd (omega (arith, told.1, why))
  row-refused (Start c) e book is why = row-start c book is (cause-of (IsWrongToStart b c.lane c.number) e why)
  row-refused (Wait c f) e book is why =
      row-wait c f e (wait-lawful b f.whole c.lane c.number f.target row.yes row.number
      (may (wait_event f.whole c.lane c.number f.target) is)) why
  row-refused (Over c f) e book is why =
      let (r, runs, over) = over-lawful b f.whole c.lane c.number f.target row.yes row.number
      (may (over_event f.whole c.lane c.number f.target) is) in
      cause-of (¬ WaitsFor b c.lane c.number f.whole f.target) e why
      (over.flush, ((r, runs, over.waits), over.kind), over.target)
  row-refused (Finish c i) e book is why =
      row-finish c i is (cause-of ((¬ RunsItem b c.lane c.number i) ⊎ IsNotAwake b c.lane c.number) e why)
  row-refused (CancelSync i) e book is why = absurd is
  row-refused _ e book is why = absurd why

-- ---- two rows exclude all else, and are two

module _ (b new : BookView) (ask taken : Row) where
  two-early : (call : Call) → WritesTwo b call ask taken new → IsEarly b call → ⊥
  two-early (CancelSync i) two early = absurd early
  two-early _ two early = absurd two

  two-done : (call : Call) → WritesTwo b call ask taken new → IsDone b call → ⊥
  two-done (CancelSync i) two done = absurd done
  two-done _ two done = absurd two

  two-refused : (call : Call) (e : CallError) → WritesTwo b call ask taken new → Refuses b call e → ⊥
  two-refused (CancelSync i) NoItem two why =
      let come = comes b two.1.0 ask (AskEvent i) two.1.1 two.1.2 in absurd (omega (arith, come.0, why))
  two-refused (CancelSync i) HistoryFull two why = absurd (omega (arith, two.0, why.1))
  two-refused (CancelSync i) _ two why = absurd why
  two-refused _ e two why = absurd two

-- ---- early, done and refused exclude one another

early-done : (b : BookView) (call : Call) → IsEarly b call → IsDone b call → ⊥
early-done b (Start c) early done = early.1 done.1
early-done b Drain early done = early done
early-done b (Told x mark) early done = absurd done
early-done b (Over c f) early done = absurd done
early-done b _ early done = absurd early

early-refused : (b : BookView) (call : Call) (e : CallError) → IsEarly b call → Refuses b call e → ⊥
early-refused b (Told x mark) NotAsked early why = absurd (omega (arith, early.0, why))
early-refused b (Told x mark) _ early why = absurd why
early-refused b (Start c) e early why = idle-wrong b c early.0 (cause-of (IsWrongToStart b c.lane c.number) e why)
early-refused b (Over c f) e early why =
    cause-of (¬ WaitsFor b c.lane c.number f.whole f.target) e why (early.1.0, early.1.1, early.1.2)
early-refused b Drain e early why = absurd why
early-refused b _ e early why = absurd early

done-refused : (b : BookView) (call : Call) (e : CallError) → IsDone b call → Refuses b call e → ⊥
done-refused b (Start c) e done why = idle-wrong b c done.0 (cause-of (IsWrongToStart b c.lane c.number) e why)
done-refused b Close e done why = absurd why
done-refused b Drain e done why = absurd why
done-refused b _ e done why = absurd done

-- ---- a call has one refusal

-- which one, of all calls but a wait
module _ (b : BookView) where
  abbrev cause : Call → CallError
  cause (Queue i) = cond (ltb i (items b.wiring)) (cond b.closed Closed HistoryFull) NoItem
  cause (Cancel i) = cond (ltb i (items b.wiring)) HistoryFull NoItem
  cause (Ask (OfItem i)) = cond (ltb i (items b.wiring)) HistoryFull NoItem
  cause (Ask (OfLane q)) = cond (ltb q b.wiring.lanes) HistoryFull WrongLane
  cause (Told x mark) = NotAsked
  cause (CancelSync i) = cond (ltb i (items b.wiring)) HistoryFull NoItem
  cause _ = WrongLane

  abbrev IsNoWait : Call → Type 0
  IsNoWait (Wait c f) = ⊥
  IsNoWait _ = Unit {0}

  is-cause : (call : Call) (e : CallError) → IsNoWait call → Refuses b call e → e ≡ cause call
  is-cause (Queue i) NoItem other why =
      cond_above i (items b.wiring) (cond b.closed Closed HistoryFull) NoItem NoItem why refl
  is-cause (Queue i) Closed other why = ap (λ k. cond k Closed HistoryFull) (sym why.1)
      ∙ cond_below i (items b.wiring) (cond b.closed Closed HistoryFull) NoItem why.0
  is-cause (Queue i) HistoryFull other why = ap (λ k. cond k Closed HistoryFull) (sym why.1)
      ∙ cond_below i (items b.wiring) (cond b.closed Closed HistoryFull) NoItem why.0
  is-cause (Cancel i) NoItem other why = cond_above i (items b.wiring) HistoryFull NoItem NoItem why refl
  is-cause (Cancel i) HistoryFull other why = cond_below i (items b.wiring) HistoryFull NoItem why.0
  is-cause (Ask (OfItem i)) NoItem other why = cond_above i (items b.wiring) HistoryFull NoItem NoItem why refl
  is-cause (Ask (OfItem i)) HistoryFull other why = cond_below i (items b.wiring) HistoryFull NoItem why.0
  is-cause (Ask (OfLane q)) WrongLane other why = cond_above q b.wiring.lanes HistoryFull WrongLane WrongLane why refl
  is-cause (Ask (OfLane q)) HistoryFull other why = cond_below q b.wiring.lanes HistoryFull WrongLane why.0
  is-cause (Told x mark) NotAsked other why = refl
  is-cause (CancelSync i) NoItem other why = cond_above i (items b.wiring) HistoryFull NoItem NoItem why refl
  is-cause (CancelSync i) HistoryFull other why = cond_below i (items b.wiring) HistoryFull NoItem why.0
  is-cause (Wait c f) e other why = absurd other
  is-cause (Start c) WrongLane other why = refl
  is-cause (Over c f) WrongLane other why = refl
  is-cause (Finish c i) WrongLane other why = refl
  is-cause _ _ other why = absurd why

  wait-same : (c : Context) (f : Flush) (e other : CallError) → RefusesToWait b c f e → RefusesToWait b c f other
      → e ≡ other
  wait-same c f WrongLane WrongLane why also = refl
  wait-same c f WrongLane Undeclared why also = absurd (why also.0 also.1)
  wait-same c f WrongLane TooManyWaits why also = absurd (why also.0 also.1)
  wait-same c f WrongLane _ why also = absurd also
  wait-same c f Undeclared Undeclared why also = refl
  wait-same c f Undeclared WrongLane why also = absurd (also why.0 why.1)
  wait-same c f Undeclared TooManyWaits why also =
      let same : also.0 ≡ why.0 = same_running (lane_at (state b) c.lane) c.number also.0 why.0 also.1.0 why.1.0 in
      absurd (why.2 (subst (λ (r : Running). ItemWaitsBy b.wiring.waits f.whole r.entry.item f.target) same also.2))
  wait-same c f Undeclared _ why also = absurd also
  wait-same c f TooManyWaits TooManyWaits why also = refl
  wait-same c f TooManyWaits WrongLane why also = absurd (also why.0 why.1)
  wait-same c f TooManyWaits Undeclared why also =
      let same : why.0 ≡ also.0 = same_running (lane_at (state b) c.lane) c.number why.0 also.0 why.1.0 also.1.0 in
      absurd (also.2 (subst (λ (r : Running). ItemWaitsBy b.wiring.waits f.whole r.entry.item f.target) same why.2))
  wait-same c f TooManyWaits _ why also = absurd also
  wait-same c f _ other why also = absurd why

  refused-same : (call : Call) (e other : CallError) → Refuses b call e → Refuses b call other → e ≡ other
  refused-same (Wait c f) e other why also = wait-same c f e other why also
  refused-same call e other why also = is-cause call e tt why ∙ sym (is-cause call other tt also)

-- ---- the same rows leave the same book

written-same : (b new next : BookView) (r s : Row) → r ≡ s → Writes b r new → Writes b s next → new ≡ next
written-same b new next r s same first second =
    first.is_new ∙ (ap (λ (row : Row). record b { rows = b.rows ++ (row ∷ []) }) same ∙ sym second.is_new)

two-same : (b new next : BookView) (call : Call) (ask taken one other : Row) → IsBook b
    → WritesTwo b call ask taken new → WritesTwo b call one other next
    → (ask ≡ one) × (taken ≡ other) × (new ≡ next)
two-same b new next (CancelSync i) ask taken one other book two also =
    let m = two.1 in
    let n = also.1 in
    let asks : ask ≡ one = same-event b m.0 n.0 ask one book m.2 n.2 (AskEvent i) refl m.1 n.1 in
    let between : m.0 ≡ n.0 = written-same b m.0 n.0 ask one asks m.2 n.2 in
    let second : Writes m.0 other next = subst (λ (x : BookView). Writes x other next) (sym between) n.4 in
    -- the book between the two rows is one, too
    let upheld : IsBook m.0 = (row-upheld b m.0 ask book m.2).0 in
    let takes : taken ≡ other = same-event m.0 new next taken other upheld m.4 second (CancelEvent i) refl m.3 n.3 in
    (asks, takes, written-same m.0 new next taken other takes m.4 second)
two-same b new next _ ask taken one other book two also = absurd two

-- ---- a call has one answer

module _ (b new next : BookView) (call : Call) (book : IsBook b) where
  pub has-one : (one other : Result Reply CallError) → Answers b call one new → Answers b call other next
      → (one ≡ other) × (new ≡ next)
  has-one (Ok (Wrote r)) (Ok (Wrote s)) first second =
      let same : r ≡ s = one-row b new next r s book first.1 second.1 call first.0 second.0 in
      (ap (λ (k : Row). Ok (Wrote k)) same, written-same b new next r s same first.1 second.1)
  has-one (Ok (Wrote r)) (Ok (WroteTwo ask taken)) first second =
      absurd (row-two b new r first.1 next call ask taken first.0 second)
  has-one (Ok (Wrote r)) (Ok Done) first second = absurd (row-done b new r first.1 call first.0 second.0)
  has-one (Ok (Wrote r)) (Ok NotYet) first second = absurd (row-early b new r first.1 call first.0 second.0)
  has-one (Ok (Wrote r)) (Err e) first second = absurd (row-refused b new r first.1 call e book first.0 second.0)
  has-one (Ok (WroteTwo ask taken)) (Ok (Wrote s)) first second =
      absurd (row-two b next s second.1 new call ask taken second.0 first)
  has-one (Ok (WroteTwo ask taken)) (Ok (WroteTwo also other)) first second =
      let same = two-same b new next call ask taken also other book first second in
      (ap (λ (k : Row). Ok (WroteTwo k taken)) same.0 ∙ ap (λ (k : Row). Ok (WroteTwo also k)) same.1, same.2)
  has-one (Ok (WroteTwo ask taken)) (Ok Done) first second = absurd (two-done b new ask taken call first second.0)
  has-one (Ok (WroteTwo ask taken)) (Ok NotYet) first second = absurd (two-early b new ask taken call first second.0)
  has-one (Ok (WroteTwo ask taken)) (Err e) first second = absurd (two-refused b new ask taken call e first second.0)
  has-one (Ok Done) (Ok (Wrote s)) first second = absurd (row-done b next s second.1 call second.0 first.0)
  has-one (Ok Done) (Ok (WroteTwo ask taken)) first second = absurd (two-done b next ask taken call second first.0)
  has-one (Ok Done) (Ok Done) first second = (refl, first.1 ∙ sym second.1)
  has-one (Ok Done) (Ok NotYet) first second = absurd (early-done b call second.0 first.0)
  has-one (Ok Done) (Err e) first second = absurd (done-refused b call e first.0 second.0)
  has-one (Ok NotYet) (Ok (Wrote s)) first second = absurd (row-early b next s second.1 call second.0 first.0)
  has-one (Ok NotYet) (Ok (WroteTwo ask taken)) first second = absurd (two-early b next ask taken call second first.0)
  has-one (Ok NotYet) (Ok Done) first second = absurd (early-done b call first.0 second.0)
  has-one (Ok NotYet) (Ok NotYet) first second = (refl, first.1 ∙ sym second.1)
  has-one (Ok NotYet) (Err e) first second = absurd (early-refused b call e first.0 second.0)
  has-one (Err e) (Ok (Wrote s)) first second = absurd (row-refused b next s second.1 call e book second.0 first.0)
  has-one (Err e) (Ok (WroteTwo ask taken)) first second = absurd (two-refused b next ask taken call e second first.0)
  has-one (Err e) (Ok Done) first second = absurd (done-refused b call e second.0 first.0)
  has-one (Err e) (Ok NotYet) first second = absurd (early-refused b call e second.0 first.0)
  has-one (Err e) (Err other) first second =
      (ap (λ (k : CallError). Err k) (refused-same b call e other first.0 second.0), first.1 ∙ sym second.1)
