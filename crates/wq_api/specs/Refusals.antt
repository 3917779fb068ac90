-- Why calls are refused, as far as the caller can know the causes: by its arguments and its seat.
use Rattle.std.specs.Prelude.{◌≢◌, ℕ, ◌<◌, ◌≤◌, ◌⊎◌, List, sum}
use Rattle.wq_core.specs.Wiring.{Wiring, items, lane_of, HasContext}
use Rattle.wq_history.specs.declared.fault.CallError.{CallError}
use Rattle.wq_history.specs.declared.fault.CallError.TheVariants.{HistoryFull, Closed, Undeclared, TooManyWaits}
use Rattle.wq_history.specs.declared.fault.CallError.TheVariants.{WrongLane, NoItem}
use Rattle.wq_held.specs.Locked.{IsOnLane, seat_rows, SeatHasRoom}

-- `queue_work` of item i on lane q, through a seat with these counts: no such item; it belongs to another lane; the
-- seat is full (60); the runtime is closed; too few rows are free (60)
abbrev pub RefusesQueueWork : Wiring → List ℕ → ℕ → ℕ → CallError → Type 0
RefusesQueueWork w counts q i NoItem = items w ≤ i
RefusesQueueWork w counts q i WrongLane = (i < items w) × (lane_of w i ≢ q)
RefusesQueueWork w counts q i Closed = IsOnLane w q i × SeatHasRoom counts
RefusesQueueWork w counts q i HistoryFull = IsOnLane w q i
RefusesQueueWork w counts q i _ = ⊥

-- `cancel_work` of item i: no such item; the seat or the history is full
abbrev pub RefusesCancelWork : Wiring → ℕ → CallError → Type 0
RefusesCancelWork w i NoItem = items w ≤ i
RefusesCancelWork w i HistoryFull = i < items w
RefusesCancelWork w i _ = ⊥

-- a wait of a context that exists if `there` says so, through a seat with these counts: no such context, or it can't
-- make this step; the seat is full; what it runs declares no such flush, or has made as many waits as it declares
abbrev pub RefusesWaitOf : Type 0 → List ℕ → CallError → Type 0
RefusesWaitOf there counts WrongLane = (¬ there) ⊎ SeatHasRoom counts
RefusesWaitOf there counts HistoryFull = there × (seat_rows ≤ sum counts)
RefusesWaitOf there counts Undeclared = there × SeatHasRoom counts
RefusesWaitOf there counts TooManyWaits = there × SeatHasRoom counts
RefusesWaitOf there counts _ = ⊥

-- `wait_for` or `wait_all_for` on lane q
abbrev pub RefusesWaitFor : Wiring → List ℕ → ℕ → CallError → Type 0
RefusesWaitFor w counts q e = RefusesWaitOf (q < w.lanes) counts e

-- the same of context c of lane q
abbrev pub RefusesWaitIn : Wiring → List ℕ → ℕ → ℕ → CallError → Type 0
RefusesWaitIn w counts q c e = RefusesWaitOf (HasContext w q c) counts e
