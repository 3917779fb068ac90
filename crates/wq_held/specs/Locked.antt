-- What the lock of a runtime guards, and what the calls under the lock do to it and to the caller's seat.
use Rattle.std.specs.Prelude.{◌≡◌, ◌≢◌, ℕ, max, ◌+◌, ◌*◌, ◌<◌, ◌≤◌, ◌⊎◌, List, sum, replicate}
use Rattle.wq_core.specs.Wiring.{Wiring, items, lane_of, max_helpers}
use Rattle.wq_core.specs.State.{HasUnfinished}
use Rattle.wq_core.specs.Deadlock.{IsStuck, IsSafe}
use Rattle.wq_counts.specs.Counting.{counts_each, HasCountsOf, AreTallies, counted_rows}
use Rattle.wq_history.specs.History.{all_asks_waiting}
use Rattle.wq_history.specs.Book.{BookView, state, IsBook}
use Rattle.wq_held.specs.declared.fault.CloseWhy.{CloseWhy}
use Rattle.wq_held.specs.declared.fault.CloseWhy.TheVariants.{NotIdle, SeatsMissing}

-- what contracts see of it: the book, and how many seats were made, each with a part of the ledger
pub record HeldView : Type 0 where
  pub book : BookView
  pub seats : ℕ

-- ---- what holds whenever the lock is free

-- the most lanes that a runtime may have
abbrev pub max_runtime_lanes : ℕ
max_runtime_lanes = 256

-- how many slots of counts a runtime has: as many as items or lanes, whichever are
-- more. Slot n holds the counts of item n and those of lane n
abbrev pub slots : Wiring → ℕ
slots w = max (items w) w.lanes

-- for a runtime with this wiring, this many rows and this many parts of its ledger: the book is of
-- this wiring and has room for this many rows; there are at most 256 lanes with at most 8 helpers
-- each, and no run of the assignment ends stuck; the tallies are those of the book's rows, and add
-- up to the number of its counted rows; the room for the sums is kept empty. Each part of the ledger
-- was given to a seat or is left; at least one is left, and those that are left have no amount
pub record IsProtected (w : Wiring) (rows parts : ℕ) (book : BookView) (tallies sums : List ℕ)
    (seats parts_left amount_left : ℕ) : Type 0 where
  pub of_wiring : book.wiring ≡ w
  pub of_rows : book.room ≡ rows
  pub few_lanes : w.lanes ≤ max_runtime_lanes
  pub few_helpers : w.helpers ≤ max_helpers
  pub safe : IsSafe w
  pub a_count_each : HasCountsOf (slots w) tallies
  pub tallied : AreTallies (slots w) book.rows tallies
  pub counted : sum tallies ≡ counted_rows book.rows
  pub no_sums : sums ≡ replicate (counts_each * slots w) 0
  pub all_parts : parts ≡ 65536
  pub parts_given : parts_left + seats ≡ parts
  pub a_part_left : 0 < parts_left
  pub no_amount_left : amount_left ≡ 0

-- a seat: its counts, and one part of the ledger, whose amount is what the counts add up to
pub record IsSeat (w : Wiring) (counts : List ℕ) (parts amount : ℕ) : Type 0 where
  pub a_count_each : HasCountsOf (slots w) counts
  pub one_part : parts ≡ 1
  pub amount_is : amount ≡ sum counts

-- the tallies: they add up to the total of the ledger, which is that of all its parts
pub record IsLedgered (w : Wiring) (tallies : List ℕ) (total : ℕ) : Type 0 where
  pub a_count_each : HasCountsOf (slots w) tallies
  pub total_is : total ≡ sum tallies

-- whenever the lock is taken, the book is of this wiring and has room for this many rows; its rows are a legal history
-- whose replay is its state, and rows are kept for what is to come; each lane has at most 8 helpers; no run of the
-- assignment ends stuck, whatever helpers there are, and so its state isn't stuck
pub record Holds (w : Wiring) (rows : ℕ) (b : BookView) : Type 0 where
  pub of_wiring : b.wiring ≡ w
  pub of_rows : b.room ≡ rows
  pub legal : IsBook b
  pub few_helpers : w.helpers ≤ max_helpers
  pub safe : IsSafe w
  pub not_stuck : ¬ IsStuck w (state b)

-- ---- counts of a seat

-- how many rows a seat counts before calls with it are refused
abbrev pub seat_rows : ℕ
seat_rows = 33554432

-- the seat with these counts isn't full
abbrev pub SeatHasRoom : List ℕ → Type 0
SeatHasRoom counts = sum counts < seat_rows

-- ---- lanes

-- the item exists, and belongs to the lane
abbrev pub IsOnLane : Wiring → ℕ → ℕ → Type 0
IsOnLane w q i = (i < items w) × (lane_of w i ≡ q)

-- ---- closing

-- this many seats don't close the runtime: work is unfinished, or a caller waits; or else these aren't all its seats
abbrev pub RefusesClose : HeldView → ℕ → CloseWhy → Type 0
RefusesClose h n NotIdle = HasUnfinished (state h.book) ⊎ (0 < all_asks_waiting h.book.rows)
RefusesClose h n SeatsMissing = (¬ HasUnfinished (state h.book)) × (all_asks_waiting h.book.rows ≡ 0) × (n ≢ h.seats)

-- this many seats close the runtime
pub record Closes (h : HeldView) (n : ℕ) : Type 0 where
  pub idle : ¬ HasUnfinished (state h.book)
  pub nobody_waits : all_asks_waiting h.book.rows ≡ 0
  pub all_seats : n ≡ h.seats
