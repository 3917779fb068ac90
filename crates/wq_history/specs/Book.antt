-- Books: a history with room for a given number of rows, and what each call answers.
use Rattle.std.specs.Prelude.{◌≡◌, ℕ, zero, suc, ◌+◌, ◌<◌, ◌≤◌, ◌⊎◌, List, ◌∷◌, [], ◌++◌, length, Some, None, Bool, ⊤}
use Rattle.wq_core.specs.declared.entry.Entry.{Entry}
use Rattle.wq_core.specs.declared.entry.Waiting.{Waiting}
use Rattle.wq_core.specs.declared.entry.Running.{Running}
use Rattle.wq_core.specs.Wiring.{Wiring, IsWiring, items, HasContext}
use Rattle.wq_core.specs.State.{State, lane_at, run_by, next_of, RunsIn, IsPendingOn}
use Rattle.wq_core.specs.Rules.{IsHeldBack}
use Rattle.wq_rows.specs.declared.event.Event.{Event}
use Rattle.wq_rows.specs.declared.event.Row.{Row}
use Rattle.wq_rows.specs.Stored.{max_rows}
use Rattle.wq_history.specs.declared.fault.BookError.{BookError}
use Rattle.wq_history.specs.declared.fault.BookError.TheVariants.{HistoryFull, Closed, Undeclared, TooManyWaits}
use Rattle.wq_history.specs.declared.fault.BookError.TheVariants.{WrongLane, NoItem, TooManyRows, OutOfMemory}
use Rattle.wq_history.specs.History.{state_after, MayCome, IsLegal}
use Rattle.wq_history.specs.Reserve.{reserved, free_rows, rows_needed}

-- a book: the wiring of its machine, the rows so far, how many there is room for,
-- and whether it is closed. Its state is the replay of the rows
pub record BookView : Type 0 where
  pub wiring : Wiring
  pub rows : List Row
  pub room : ℕ
  pub closed : Bool

-- the state of a book
abbrev pub state : BookView → State
state b = state_after b.wiring b.rows

-- how many rows are free
abbrev pub free : BookView → ℕ
free b = free_rows b.wiring b.room b.rows

-- what holds for every book: its wiring is sound, its rows are a legal history, it has no more room than a history may
-- have, and there is room for the rows that are written and for those that are kept
pub record IsBook (b : BookView) : Type 0 where
  pub wiring : IsWiring b.wiring
  pub legal : IsLegal b.wiring b.rows
  pub limit : b.room ≤ max_rows
  pub enough : length b.rows + reserved b.wiring b.rows ≤ b.room

-- exactly one row is appended, which may follow those before it; at least as many
-- rows were free as its event needs; nothing else is changed
pub record Appends (old new : BookView) (event : Event) (said : Bool) (number : ℕ) : Type 0 where
  pub may : MayCome old.wiring old.rows event said number
  pub room : rows_needed old.wiring event said ≤ free old
  pub is_new : new ≡ record old { rows = old.rows ++ (record { event = event; yes = said; number = number } ∷ []) }

-- a row of this event is appended, with this `yes`
abbrev pub AppendsOne : BookView → BookView → Event → Bool → Type 0
AppendsOne old new event said = (n : ℕ) × Appends old new event said n

-- a row of this event may follow, but fewer rows are free than it needs
abbrev pub LacksRows : BookView → Event → Type 0
LacksRows b event =
    (said : Bool) × (n : ℕ) × MayCome b.wiring b.rows event said n × (free b < rows_needed b.wiring event said)

-- ---- lanes of a book, and their contexts: 0 is the rescuer, and the others are the helpers

-- context c of lane q runs this
abbrev pub LaneRuns : BookView → ℕ → ℕ → Running → Type 0
LaneRuns b q c r = RunsIn (lane_at (state b) q) c r

-- context c of lane q runs an entry that doesn't wait. A context that doesn't exist runs none
abbrev pub IsAwake : BookView → ℕ → ℕ → Running → Type 0
IsAwake b q c r = LaneRuns b q c r × (r.waiting ≡ None)

-- context c of lane q runs an entry that waits for this
abbrev pub IsWaiting : BookView → ℕ → ℕ → Waiting → Type 0
IsWaiting b q c f = (r : Running) × LaneRuns b q c r × (r.waiting ≡ Some f)

-- context c of lane q runs an entry that waits for this, by a wait of this kind: for
-- the whole lane of the target, or for the target alone
abbrev pub IsWaitingBy : BookView → ℕ → ℕ → Bool → Waiting → Type 0
IsWaitingBy b q c whole f = IsWaiting b q c f × (f.whole ≡ whole)

-- helper h of lane q runs this. The helpers are numbered from 1
abbrev pub HelperRuns : BookView → ℕ → ℕ → Running → Type 0
HelperRuns b q h r = (0 < h) × LaneRuns b q h r

-- helper h of lane q runs an entry that waits for this, by a wait of this kind
abbrev pub HelperWaitsBy : BookView → ℕ → ℕ → Bool → Waiting → Type 0
HelperWaitsBy b q h whole f = (0 < h) × IsWaitingBy b q h whole f

-- context c of lane q runs an entry of item i
abbrev pub RunsItem : BookView → ℕ → ℕ → ℕ → Type 0
RunsItem b q c i = (r : Running) × LaneRuns b q c r × (r.entry.item ≡ i)

-- context c of lane q waits for item `target`, or for the whole lane of `target`
abbrev pub WaitsFor : BookView → ℕ → ℕ → Bool → ℕ → Type 0
WaitsFor b q c whole target = (f : Waiting) × IsWaitingBy b q c whole f × (f.target ≡ target)

-- an entry is pending on lane q
abbrev pub HasPendingOn : BookView → ℕ → Type 0
HasPendingOn b q = (e : Entry) × IsPendingOn (lane_at (state b) q) e

-- the first pending entry of lane q whose item isn't running is of item i
abbrev pub IsNext : BookView → ℕ → ℕ → Type 0
IsNext b q i = (e : Entry) × (next_of (lane_at (state b) q) ≡ Some e) × (e.item ≡ i)

-- ---- why a call is refused: the first cause that holds

-- making a book of this many rows: too many rows; out of memory, which happens only if there are rows, items or lanes
abbrev pub RefusesNew : Wiring → ℕ → BookError → Type 0
RefusesNew w rows TooManyRows = max_rows < rows
RefusesNew w rows OutOfMemory = (rows ≤ max_rows) × ((0 < rows) ⊎ ((0 < items w) ⊎ (0 < w.lanes)))
RefusesNew w rows _ = ⊥

-- `cancel` or `ask` of item i, whichever has this event: no such item; too few rows are free
abbrev pub RefusesItem : BookView → ℕ → (ℕ → Event) → BookError → Type 0
RefusesItem b i event NoItem = items b.wiring ≤ i
RefusesItem b i event HistoryFull = (i < items b.wiring) × LacksRows b (event i)
RefusesItem b i event _ = ⊥

-- the call is refused because its lane is the wrong one, which this states
abbrev pub RefusesLane : Type 0 → BookError → Type 0
RefusesLane wrong WrongLane = wrong
RefusesLane wrong _ = ⊥

-- `start` of context c of lane q is wrong: there is no such lane or no such context, or it runs an entry
abbrev pub IsWrongToStart : BookView → ℕ → ℕ → Type 0
IsWrongToStart b q c = (¬ HasContext b.wiring q c) ⊎ ((r : Running) × LaneRuns b q c r)

-- `wait`, `wait_all` and `finish` of context c of lane q are wrong: there is no such
-- lane or no such context, it runs nothing, or its entry waits
abbrev pub IsNotAwake : BookView → ℕ → ℕ → Type 0
IsNotAwake b q c = (r : Running) → ¬ IsAwake b q c r

-- `over` of context c of lane q is wrong: there is no such lane or no such context,
-- it runs nothing, or its entry doesn't wait
abbrev pub IsNotWaiting : BookView → ℕ → ℕ → Type 0
IsNotWaiting b q c = (f : Waiting) → ¬ IsWaiting b q c f

-- a call for helper h is refused: there is no helper 0; for any other by the cause that this states
abbrev pub RefusesHelp : ℕ → (BookError → Type 0) → BookError → Type 0
RefusesHelp zero cause e = RefusesLane ⊤ e
RefusesHelp (suc h) cause e = cause e

-- ---- answers without a row

-- context c of lane q has nothing to start: it exists and runs nothing, and nothing is pending whose item isn't running
abbrev pub HasNothingToStart : BookView → ℕ → ℕ → Type 0
HasNothingToStart b q c =
    HasContext b.wiring q c × (run_by (lane_at (state b) q) c ≡ None) × (next_of (lane_at (state b) q) ≡ None)

-- the wait of context c of lane q isn't over: an unfinished entry of its target, or
-- of the whole lane of that, holds it back
abbrev pub WaitGoesOn : BookView → ℕ → ℕ → Type 0
WaitGoesOn b q c = (f : Waiting) × IsWaiting b q c f × IsHeldBack b.wiring (state b) f.whole f.target f.mark

-- the number of a refusal
abbrev pub book_code : BookError → ℕ
book_code OutOfMemory = 20
book_code HistoryFull = 60
book_code Closed = 61
book_code Undeclared = 62
book_code TooManyWaits = 63
book_code WrongLane = 64
book_code NoItem = 66
book_code TooManyRows = 68
