-- Calls by name: what the relation says of a call is what the contract of its name says.
use Rattle.std.proofs.Common.{◌≡◌, ℕ, inl, inr, Bool, true, false, refl, sym, ap, subst, ◌∙◌, Some, None, MatchOption}
use Rattle.wq_history.proofs.Words.{Running, CancelEvent, AskEvent, AskLaneEvent, Row, item_in, Subject, OfItem, OfLane}
use Rattle.wq_history.proofs.Words.{Flush, Call, Cancel, Ask, Told, Start, Wait, Over, Finish, Wrote, Done, NotYet}
use Rattle.wq_history.proofs.Words.{BookError, CallError, WrongLane, NotAsked, told_event, start_event, wait_event}
use Rattle.wq_history.proofs.Words.{over_event, finish_event, asks_waiting, BookView, state, Appends, AppendsOne}
use Rattle.wq_history.proofs.Words.{RunsItem, IsWaiting, IsNotAwake, RefusesIf, Refuses, Replies, DoStart}
use Rattle.wq_core.specs.declared.entry.Waiting.{Waiting as WaitOf}
use Rattle.wq_history.specs.declared.asking.Ask.TheVariants.{Idle as ItemIdle, Waiting as ItemWaiting}
use Rattle.wq_history.specs.declared.asking.Asked.{Asked}
use Rattle.wq_history.specs.declared.asking.Told.TheVariants.{Done as ItemTold}
use Rattle.wq_history.specs.declared.asking.LaneAsk.TheVariants.{Idle as LaneIdle, Waiting as LaneWaiting}
use Rattle.wq_history.specs.declared.asking.LaneAsked.{LaneAsked}
use Rattle.wq_history.specs.declared.asking.LaneTold.TheVariants.{Done as LaneTold}
use Rattle.wq_history.specs.declared.fault.BookError.TheVariants.{HistoryFull as BookFull, WrongLane as BookWrongLane}
use Rattle.wq_history.specs.Errors.{call_error, IsOfBook}
use Rattle.wq_history.specs.Book.{LaneRuns, RefusesItem, RefusesLane}
use Rattle.wq_history.specs.Answers.{AnswersAsk, AnswersTold, AnswersAskLane, AnswersToldLane, AnswersStart}
use Rattle.wq_history.specs.Answers.{AnswersOver}
use Rattle.wq_history.specs.Calls.{AlwaysWrites, RefusesAs}
use Rattle.wq_history.proofs.CallRows.{wrong-only, appends-as, appends_event, told-yes, deed-says, over-yes, finish-yes}
use Rattle.wq_history.proofs.CallRows.{yes-row, start-item, held-back}

-- ---- refusals

-- a refused call, by the error of its name
pub refused_as : (b : BookView) (call : Call) (x : BookError) (e : CallError) → call_error x ≡ Some e
    → Refuses b call e → RefusesAs b call x
refused_as b call x e is why = subst (λ o. MatchOption o ⊥ (λ y. Refuses b call y)) (sym is) why

pub cancel_refused : (b : BookView) (i : ℕ) (x : BookError) → RefusesAs b (Cancel i) x → RefusesItem b i CancelEvent x
cancel_refused b i BookFull why = why
cancel_refused b i _ why = why

pub ask_refused : (b : BookView) (i : ℕ) (x : BookError) → RefusesAs b (Ask (OfItem i)) x → RefusesItem b i AskEvent x
ask_refused b i BookFull why = why
ask_refused b i _ why = why

-- a call with one cause of refusal
pub lane_refused : (wrong : Type 0) (x : BookError) (e : CallError) → call_error x ≡ Some e → RefusesIf wrong e
    → RefusesLane wrong x
lane_refused wrong x e is why = let only = (wrong-only wrong e).1 why in by x (is ∙ ap Some only.0) only.1 where
  by : (y : BookError) → call_error y ≡ Some WrongLane → wrong → RefusesLane wrong y
  by BookWrongLane same holds = holds
  by _ same holds = absurd cc

-- a call with one cause of refusal is refused as one by name
pub lane_of_book : (wrong : Type 0) (e : CallError) → RefusesIf wrong e → IsOfBook e
lane_of_book wrong NotAsked why = why
lane_of_book wrong _ why = tt

-- so is a call that writes one row unless it is refused
pub row_of_book : (b : BookView) (call : Call) (e : CallError) → AlwaysWrites call → Refuses b call e → IsOfBook e
row_of_book b (Ask (OfItem i)) NotAsked writes why = why
row_of_book b (Ask (OfLane q)) NotAsked writes why = why
row_of_book b (Told x mark) NotAsked writes why = absurd writes
row_of_book b call NotAsked writes why = absurd why
row_of_book b call _ writes why = tt

-- ---- replies

-- an ask: the item is idle, or the caller waits, with the number of the row as its mark
pub ask_idle : (old new : BookView) (i : ℕ) (row : Row) → row.yes ≡ false → Replies old (Ask (OfItem i)) (Wrote row) new
    → AnswersAsk old new i ItemIdle
ask_idle old new i row is replies = (
  row.number,
  appends-as old new row.event (AskEvent i) row.yes false row.number row.number replies.0 is refl replies.1,
)

pub ask_waits : (old new : BookView) (i : ℕ) (row : Row) → row.yes ≡ true → Replies old (Ask (OfItem i)) (Wrote row) new
    → AnswersAsk old new i (ItemWaiting (record { item = i; mark = row.number }))
ask_waits old new i row waits replies = (
  refl,
  appends-as old new row.event (AskEvent i) row.yes true row.number row.number replies.0 waits refl replies.1,
)

-- the same of a lane
pub ask_lane_idle : (old new : BookView) (q : ℕ) (row : Row) → row.yes ≡ false
    → Replies old (Ask (OfLane q)) (Wrote row) new → AnswersAskLane old new q LaneIdle
ask_lane_idle old new q row is replies = (
  row.number,
  appends-as old new row.event (AskLaneEvent q) row.yes false row.number row.number replies.0 is refl replies.1,
)

pub ask_lane_waits : (old new : BookView) (q : ℕ) (row : Row) → row.yes ≡ true
    → Replies old (Ask (OfLane q)) (Wrote row) new
    → AnswersAskLane old new q (LaneWaiting (record { lane = q; mark = row.number }))
ask_lane_waits old new q row waits replies = (
  refl,
  appends-as old new row.event (AskLaneEvent q) row.yes true row.number row.number replies.0 waits refl replies.1,
)

-- no ask waits
pub no_ask : (b : BookView) (x : Subject) (mark : ℕ) (e : CallError) → Refuses b (Told x mark) e
    → asks_waiting x b.rows ≡ 0
no_ask b x mark NotAsked why = why
no_ask b x mark _ why = absurd why

-- a caller that is told is told by a row with yes
told_row : (old new : BookView) (x : Subject) (mark : ℕ) (row : Row) → Replies old (Told x mark) (Wrote row) new
    → Appends old new (told_event x) true mark
told_row old new x mark row replies =
    let told = appends-as old new row.event
    (told_event x) row.yes row.yes row.number mark replies.0.0 refl replies.0.1 replies.1 in
    let yes : row.yes ≡ true = told-yes old.wiring old.rows x row.yes mark told.may in
    subst (λ (k : Bool). Appends old new (told_event x) k mark) yes told

pub told_done : (old new : BookView) (asked : Asked) (row : Row)
    → Replies old (Told (OfItem asked.item) asked.mark) (Wrote row) new → AnswersTold old new asked ItemTold
told_done old new asked row replies = told_row old new (OfItem asked.item) asked.mark row replies

pub told_lane_done : (old new : BookView) (asked : LaneAsked) (row : Row)
    → Replies old (Told (OfLane asked.lane) asked.mark) (Wrote row) new → AnswersToldLane old new asked LaneTold
told_lane_done old new asked row replies = told_row old new (OfLane asked.lane) asked.mark row replies

-- ---- contexts

-- a start, of the item of the row
pub start_some : (old new : BookView) (q h item : ℕ) (row : Row) → item ≡ item_in row.event
    → Replies old (Start (record { lane = q; number = h })) (Wrote row) new → AnswersStart old new q h (Some item)
start_some old new q h item row is replies =
    let i : ℕ = replies.0.0 in
    let appends = yes-row old new row (start_event q h i) replies.0.2 replies.1
    (deed-says old.wiring old.rows q h (DoStart i)) in
    let same : item ≡ i = is ∙ (ap item_in replies.0.2 ∙ start-item q h i) in
    subst (λ (k : ℕ). AnswersStart old new q h (Some k)) (sym same) (replies.0.1, appends)

-- nothing is started: the context is done, or it sleeps
pub start_none : (old new : BookView) (q h : ℕ) → Replies old (Start (record { lane = q; number = h })) Done new
    → AnswersStart old new q h None
start_none old new q h replies = (replies.0.0, replies.1)

pub start_later : (old new : BookView) (q h : ℕ) → Replies old (Start (record { lane = q; number = h })) NotYet new
    → AnswersStart old new q h None
start_later old new q h replies = (replies.0.0, replies.1)

-- a wait begins
pub wait_row : (old new : BookView) (q h : ℕ) (whole : Bool) (t : ℕ) (row : Row)
    → Replies old (Wait (record { lane = q; number = h }) (record { target = t; whole = whole })) (Wrote row) new
    → AppendsOne old new (wait_event whole q h t) row.yes
wait_row old new q h whole t row replies = appends_event old new row (wait_event whole q h t) replies.0 replies.1

-- what waits is let go on, or not yet
pub over_true : (old new : BookView) (q h : ℕ) (f : WaitOf) (row : Row) → IsWaiting old q h f
    → Replies old (Over (record { lane = q; number = h })
    (record { target = f.target; whole = f.whole })) (Wrote row) new
    → AnswersOver old new q h true
over_true old new q h f row waits replies =
    let event = over_event f.whole q h f.target in
    (f, waits, yes-row old new row event replies.0 replies.1 (over-yes old.wiring old.rows f.whole q h f.target))

pub over_false : (old new : BookView) (q h : ℕ) (f : Flush)
    → Replies old (Over (record { lane = q; number = h }) f) NotYet new
    → AnswersOver old new q h false
over_false old new q h f replies =
    let with = replies.0.1 in
    let held = (held-back old.wiring (state old) f.whole f.target replies.0.0).1 replies.0.2 in
    ((with.0, with.1.0, rw (with.1.1, with.2, with.3) held), replies.1)

-- the end of the wait that is there isn't refused
pub over_not_refused : (b : BookView) (q h : ℕ) (f : WaitOf) (e : CallError) → IsWaiting b q h f
    → Refuses b (Over (record { lane = q; number = h }) (record { target = f.target; whole = f.whole })) e → ⊥
over_not_refused b q h f WrongLane waits why = why (f, (waits, refl), refl)
over_not_refused b q h f _ waits why = why

-- what runs is finished
pub finish_done : (old new : BookView) (q h i : ℕ) (row : Row) → RunsItem old q h i
    → Replies old (Finish (record { lane = q; number = h }) i) (Wrote row) new
    → (r : Running) × LaneRuns old q h r × AppendsOne old new (finish_event q h r.entry.item) true
finish_done old new q h i row runs replies =
    let appends = yes-row old new row (finish_event q h i) replies.0 replies.1
    (finish-yes old.wiring old.rows q h i) in
    (runs.0, runs.1, subst (λ (k : ℕ). AppendsOne old new (finish_event q h k) true) (sym runs.2) appends)

-- or it waits
pub finish_refused : (b : BookView) (q h i : ℕ) (x : BookError) → RunsItem b q h i
    → RefusesAs b (Finish (record { lane = q; number = h }) i) x → RefusesLane (IsNotAwake b q h) x
finish_refused b q h i BookWrongLane runs (inl missing) = absurd (missing runs)
finish_refused b q h i BookWrongLane runs (inr never) = never
finish_refused b q h i _ runs why = why

-- nothing runs, so nothing is awake
pub not_awake : (b : BookView) (q h : ℕ) → ((r : Running) → ¬ LaneRuns b q h r) → IsNotAwake b q h
not_awake b q h none = λ r awake. none r awake.0

pub ruleset by_finish = (finish_done, finish_refused, not_awake)
