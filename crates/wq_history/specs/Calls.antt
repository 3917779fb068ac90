-- Calls: of a book and a call, why it is refused, what is replied, the book after, which sleepers it wakes, and in
-- which group its caller sleeps.
--
-- What is replied is the row that the call writes. Whether that row may come, and with which `yes` and which number,
-- is said by MayCome; how many free rows it needs by rows_needed; and both by Appends. If there is no row to
-- write, the call is done; or it is too early, and then nothing is changed, and its caller sleeps and calls again.
use Rattle.std.specs.Prelude.{◌≡◌, ℕ, ◌<◌, ◌≤◌, ◌⊎◌, length, Bool, true, false, Option, Some, None, Result, Ok, Err}
use Rattle.std.specs.Prelude.{MatchOption}
use Rattle.wq_items.specs.Table.{ItemWaitsBy}
use Rattle.wq_core.specs.declared.step.Context.{Context}
use Rattle.wq_core.specs.declared.entry.Running.{Running}
use Rattle.wq_core.specs.declared.entry.Waiting.{Waiting}
use Rattle.wq_core.specs.Wiring.{Wiring, items, lane_of, declared_by}
use Rattle.wq_core.specs.State.{State, lane_at, HasUnfinishedBelow, IsBusyBelow}
use Rattle.wq_rows.specs.declared.event.Event.TheVariants.{Queue as QueueEvent, Cancel as CancelEvent, Ask as AskEvent}
use Rattle.wq_rows.specs.declared.event.Event.TheVariants.{AskLane as AskLaneEvent}
use Rattle.wq_rows.specs.declared.event.Event.{Event}
use Rattle.wq_rows.specs.declared.event.Row.{Row}
use Rattle.wq_history.specs.declared.asking.Subject.{Subject}
use Rattle.wq_history.specs.declared.asking.Subject.TheVariants.{Item as OfItem, Lane as OfLane}
use Rattle.wq_history.specs.declared.call.Flush.{Flush}
use Rattle.wq_history.specs.declared.call.Call.{Call}
use Rattle.wq_history.specs.declared.call.Call.TheVariants.{Queue, Cancel, Ask, Told, CancelSync, Start, Wait, Over}
use Rattle.wq_history.specs.declared.call.Call.TheVariants.{Finish, Close, Drain}
use Rattle.wq_history.specs.declared.call.Reply.{Reply}
use Rattle.wq_history.specs.declared.call.Reply.TheVariants.{Wrote, WroteTwo, Done, NotYet}
use Rattle.wq_history.specs.declared.fault.BookError.{BookError}
use Rattle.wq_history.specs.declared.fault.CallError.{CallError}
use Rattle.wq_history.specs.declared.fault.CallError.TheVariants.{HistoryFull, Closed, Undeclared, TooManyWaits}
use Rattle.wq_history.specs.declared.fault.CallError.TheVariants.{WrongLane, NotAsked, NoItem}
use Rattle.wq_history.specs.declared.sleepers.Sleepers.{Sleepers}
use Rattle.wq_history.specs.declared.sleepers.Sleepers.TheVariants.{Contexts, ItemWaiters, LaneWaiters, Destroyers}
use Rattle.wq_history.specs.declared.sleepers.Wake.{Wake}
use Rattle.wq_history.specs.Errors.{call_error}
use Rattle.wq_history.specs.Events.{ask_event, told_event, start_event, wait_event, over_event, finish_event}
use Rattle.wq_history.specs.History.{asks_waiting}
use Rattle.wq_history.specs.Book.{BookView, state, free, Appends, LacksRows, IsAwake, IsWaitingBy, WaitsFor, RunsItem}
use Rattle.wq_history.specs.Book.{IsNext, HasNothingToStart, IsWrongToStart, IsNotAwake}
use Rattle.wq_history.specs.Waits.{Condition, WorkOn, EndOf, ItemDone, LaneDone, AllDone, IsMet, nobody, one_context}
use Rattle.wq_history.specs.Waits.{by_closing, WakesBy}

-- ---- what calls are about

-- what a wait is for: the item, or the whole lane of the item
abbrev pub subject_of : Wiring → Bool → ℕ → Subject
subject_of w false b = OfItem b
subject_of w true b = OfLane (lane_of w b)

-- an unfinished entry of the item, or of the lane, has a number below the mark
abbrev pub IsUnfinishedBelow : State → Subject → ℕ → Type 0
IsUnfinishedBelow s (OfItem i) mark = HasUnfinishedBelow s i mark
IsUnfinishedBelow s (OfLane q) mark = IsBusyBelow (lane_at s q) mark

-- what the context runs waits so, with this mark
abbrev pub WaitsWith : BookView → Context → Flush → ℕ → Type 0
WaitsWith b c f mark = (g : Waiting) × IsWaitingBy b c.lane c.number f.whole g × (g.target ≡ f.target) × (g.mark ≡ mark)

-- ---- why a call is refused: the first cause that holds, in this order

-- a queueing: there is no such item (66); the book is closed (61); too few rows are free (60)
abbrev pub RefusesToQueue : BookView → ℕ → CallError → Type 0
RefusesToQueue b i NoItem = items b.wiring ≤ i
RefusesToQueue b i Closed = (i < items b.wiring) × (b.closed ≡ true)
RefusesToQueue b i HistoryFull = (i < items b.wiring) × (b.closed ≡ false) × LacksRows b (QueueEvent i)
RefusesToQueue b i _ = ⊥

-- a cancellation: there is no such item (66); too few rows are free (60)
abbrev pub RefusesToCancel : BookView → ℕ → CallError → Type 0
RefusesToCancel b i NoItem = items b.wiring ≤ i
RefusesToCancel b i HistoryFull = (i < items b.wiring) × LacksRows b (CancelEvent i)
RefusesToCancel b i _ = ⊥

-- an ask: there is no such item (66), or no such lane (64); too few rows are free (60)
abbrev pub RefusesToAsk : BookView → Subject → CallError → Type 0
RefusesToAsk b (OfItem i) NoItem = items b.wiring ≤ i
RefusesToAsk b (OfItem i) HistoryFull = (i < items b.wiring) × LacksRows b (AskEvent i)
RefusesToAsk b (OfItem i) _ = ⊥
RefusesToAsk b (OfLane q) WrongLane = b.wiring.lanes ≤ q
RefusesToAsk b (OfLane q) HistoryFull = (q < b.wiring.lanes) × LacksRows b (AskLaneEvent q)
RefusesToAsk b (OfLane q) _ = ⊥

-- to be told: no ask of this waits (65)
abbrev pub RefusesToTell : BookView → Subject → CallError → Type 0
RefusesToTell b x NotAsked = asks_waiting x b.rows ≡ 0
RefusesToTell b x _ = ⊥

-- an ask and a cancellation: there is no such item (66); fewer than 3 rows are free (60)
abbrev pub RefusesToCancelSync : BookView → ℕ → CallError → Type 0
RefusesToCancelSync b i NoItem = items b.wiring ≤ i
RefusesToCancelSync b i HistoryFull = (i < items b.wiring) × (free b < 3)
RefusesToCancelSync b i _ = ⊥

-- a wait: there is no such context, it runs nothing, or that waits (64); what runs declares no such flush (62); it
-- has made as many waits as its item declares flushes, of both kinds (63)
abbrev pub RefusesToWait : BookView → Context → Flush → CallError → Type 0
RefusesToWait b c f WrongLane = IsNotAwake b c.lane c.number
RefusesToWait b c f Undeclared = (r : Running) × IsAwake b c.lane c.number r
    × (¬ ItemWaitsBy b.wiring.waits f.whole r.entry.item f.target)
RefusesToWait b c f TooManyWaits = (r : Running) × IsAwake b c.lane c.number r
    × ItemWaitsBy b.wiring.waits f.whole r.entry.item f.target × (length (declared_by b.wiring r.entry.item) ≤ r.made)
RefusesToWait b c f _ = ⊥

-- a call of a context that can't make it (64)
abbrev pub RefusesIf : Type 0 → CallError → Type 0
RefusesIf wrong WrongLane = wrong
RefusesIf wrong _ = ⊥

-- why a book refuses a call. A start: there is no such context, or it runs an entry. The end of a wait: the context
-- doesn't wait so. A finish: the context runs no entry of this item, or that waits
abbrev pub Refuses : BookView → Call → CallError → Type 0
Refuses b (Queue i) e = RefusesToQueue b i e
Refuses b (Cancel i) e = RefusesToCancel b i e
Refuses b (Ask x) e = RefusesToAsk b x e
Refuses b (Told x mark) e = RefusesToTell b x e
Refuses b (CancelSync i) e = RefusesToCancelSync b i e
Refuses b (Start c) e = RefusesIf (IsWrongToStart b c.lane c.number) e
Refuses b (Wait c f) e = RefusesToWait b c f e
Refuses b (Over c f) e = RefusesIf (¬ WaitsFor b c.lane c.number f.whole f.target) e
Refuses b (Finish c i) e = RefusesIf ((¬ RunsItem b c.lane c.number i) ⊎ IsNotAwake b c.lane c.number) e
Refuses b Close e = ⊥
Refuses b Drain e = ⊥

-- ---- what is replied, and the book after

-- the row that a call writes, if it writes just one: what happened. Of a closed book nothing is queued; a start is of
-- the first pending entry whose item doesn't run; and a caller that is told has the mark of its ask
abbrev pub IsRowOf : BookView → Call → Row → Type 0
IsRowOf b (Queue i) row = (row.event ≡ QueueEvent i) × (b.closed ≡ false)
IsRowOf b (Cancel i) row = row.event ≡ CancelEvent i
IsRowOf b (Ask x) row = row.event ≡ ask_event x
IsRowOf b (Told x mark) row = (row.event ≡ told_event x) × (row.number ≡ mark)
IsRowOf b (CancelSync i) row = ⊥
IsRowOf b (Start c) row = (i : ℕ) × IsNext b c.lane i × (row.event ≡ start_event c.lane c.number i)
IsRowOf b (Wait c f) row = row.event ≡ wait_event f.whole c.lane c.number f.target
IsRowOf b (Over c f) row = row.event ≡ over_event f.whole c.lane c.number f.target
IsRowOf b (Finish c i) row = row.event ≡ finish_event c.lane c.number i
IsRowOf b Close row = ⊥
IsRowOf b Drain row = ⊥

-- the row may come, enough rows are free, and it is appended
abbrev pub Writes : BookView → Row → BookView → Type 0
Writes old row new = Appends old new row.event row.yes row.number

-- the row of this event is written; or too few rows are free for it, and nothing is changed
abbrev pub IsWritten : BookView → Event → Option Row → BookView → Type 0
IsWritten old event (Some row) new = (row.event ≡ event) × Writes old row new
IsWritten old event None new = LacksRows old event × (new ≡ old)

-- the two rows of a call that writes two, an ask and a cancellation, for which 3 rows were free
abbrev pub WritesTwo : BookView → Call → Row → Row → BookView → Type 0
WritesTwo old (CancelSync i) ask taken new = (3 ≤ free old) × ((between : BookView)
    × (ask.event ≡ AskEvent i) × Writes old ask between × (taken.event ≡ CancelEvent i) × Writes between taken new)
WritesTwo old _ ask taken new = ⊥

-- the call is done, and there is no row for it: a context has nothing to start, and its lane has ended; the book is
-- closed; a closed book has nothing unfinished
abbrev pub IsDone : BookView → Call → Type 0
IsDone b (Start c) = HasNothingToStart b c.lane c.number × IsMet b (EndOf c.lane)
IsDone b Close = Unit {0}
IsDone b Drain = IsMet b AllDone
IsDone b _ = ⊥

-- the book after such a call
abbrev pub after : BookView → Call → BookView
after b Close = record b { closed = true }
after b _ = b

-- it is too early: an entry below the mark is unfinished; a context has nothing to start, and its lane hasn't ended;
-- an entry is unfinished, or the book isn't closed
abbrev pub IsEarly : BookView → Call → Type 0
IsEarly b (Told x mark) = (0 < asks_waiting x b.rows) × IsUnfinishedBelow (state b) x mark
IsEarly b (Start c) = HasNothingToStart b c.lane c.number × (¬ IsMet b (EndOf c.lane))
IsEarly b (Over c f) = (mark : ℕ) × WaitsWith b c f mark
    × IsUnfinishedBelow (state b) (subject_of b.wiring f.whole f.target) mark
IsEarly b Drain = ¬ IsMet b AllDone
IsEarly b _ = ⊥

-- a book replies so, and this is the book after
abbrev pub Replies : BookView → Call → Reply → BookView → Type 0
Replies old call (Wrote row) new = IsRowOf old call row × Writes old row new
Replies old call (WroteTwo ask taken) new = WritesTwo old call ask taken new
Replies old call Done new = IsDone old call × (new ≡ after old call)
Replies old call NotYet new = IsEarly old call × (new ≡ old)

-- a book answers so: it replies, or it refuses, and then it is as it was
abbrev pub Answers : BookView → Call → Result Reply CallError → BookView → Type 0
Answers old call (Ok reply) new = Replies old call reply new
Answers old call (Err e) new = Refuses old call e × (new ≡ old)

-- ---- calls by name

-- a call that isn't refused writes one row, whatever is found
abbrev pub AlwaysWrites : Call → Type 0
AlwaysWrites (Queue i) = Unit {0}
AlwaysWrites (Cancel i) = Unit {0}
AlwaysWrites (Ask x) = Unit {0}
AlwaysWrites (Wait c f) = Unit {0}
AlwaysWrites (Finish c i) = Unit {0}
AlwaysWrites _ = ⊥

-- a call is refused, by this error of a named call
abbrev pub RefusesAs : BookView → Call → BookError → Type 0
RefusesAs b call e = MatchOption (call_error e) ⊥ (λ why. Refuses b call why)

-- a call by name writes a row, or it is refused, and then nothing is changed
abbrev pub AnswersAs : BookView → Call → Result Row BookError → BookView → Type 0
AnswersAs old call (Ok row) new = Replies old call (Wrote row) new
AnswersAs old call (Err e) new = RefusesAs old call e × (new ≡ old)

-- `queue` of item i
abbrev pub RefusesQueue : BookView → ℕ → BookError → Type 0
RefusesQueue b i e = RefusesAs b (Queue i) e

-- `ask_lane` of lane q
abbrev pub RefusesAskLane : BookView → ℕ → BookError → Type 0
RefusesAskLane b q e = RefusesAs b (Ask (OfLane q)) e

-- `wait` of context c of lane q for a target, or `wait_all` for its whole lane
abbrev pub RefusesWait : BookView → ℕ → ℕ → Bool → ℕ → BookError → Type 0
RefusesWait b q c whole target e =
    RefusesAs b (Wait (record { lane = q; number = c }) (record { target = target; whole = whole })) e

-- ---- which sleepers are woken, and which callers sleep

-- which sleepers a call wakes that is done without a row: once the book is closed, all contexts, and all that wait
-- until everything is done
abbrev pub woken_by_done : Call → Wake
woken_by_done Close = by_closing
woken_by_done _ = nobody

-- which sleepers a refused call wakes: a start passes its wake-up on, since it may have been woken in place of another
-- context
abbrev pub woken_by_refusal : Call → Wake
woken_by_refusal (Start c) = one_context c.lane
woken_by_refusal _ = nobody

-- which sleepers an answer wakes, if this is the book after it
abbrev pub WakesAfter : BookView → Call → Result Reply CallError → Wake → Type 0
WakesAfter new call (Ok (Wrote row)) wake = WakesBy new row.event row.yes wake
WakesAfter new call (Ok (WroteTwo ask taken)) wake = WakesBy new taken.event taken.yes wake
WakesAfter new call (Ok Done) wake = wake ≡ woken_by_done call
WakesAfter new call (Ok NotYet) wake = wake ≡ nobody
WakesAfter new call (Err e) wake = wake ≡ woken_by_refusal call

-- who waits for an item, or for a lane
abbrev pub waiters_for : Subject → Sleepers
waiters_for (OfItem i) = ItemWaiters i
waiters_for (OfLane q) = LaneWaiters q

-- no entry of the item, or of the lane, is unfinished below the mark
abbrev pub done_below : Subject → ℕ → Condition
done_below (OfItem i) mark = ItemDone i mark
done_below (OfLane q) mark = LaneDone q mark

-- the group in which the caller of an early call sleeps
abbrev pub sleepers_of : Wiring → Call → Sleepers
sleepers_of w (Told x mark) = waiters_for x
sleepers_of w (Start c) = Contexts c.lane
sleepers_of w (Over c f) = waiters_for (subject_of w f.whole f.target)
sleepers_of w _ = Destroyers

-- the condition for which its caller sleeps. A context that has nothing to start sleeps for two: work, and the end of
-- its lane
abbrev pub Awaits : BookView → Call → Condition → Type 0
Awaits b (Told x mark) condition = condition ≡ done_below x mark
Awaits b (Start c) condition = (condition ≡ WorkOn c.lane) ⊎ (condition ≡ EndOf c.lane)
Awaits b (Over c f) condition = (mark : ℕ) × WaitsWith b c f mark
    × (condition ≡ done_below (subject_of b.wiring f.whole f.target) mark)
Awaits b Drain condition = condition ≡ AllDone
Awaits b _ condition = ⊥
