-- What is handed back when a runtime is closed.
use Rattle.std.specs.Prelude.{◌≡◌, ℕ, ◌+◌, ◌*◌, ◌<◌, List, sum, replicate, slice_index, Bool, IsTrue, ◌↔◌}
use Rattle.std.specs.List.{sum_by, count_by}
use Rattle.wq_core.specs.Wiring.{Wiring, items}
use Rattle.wq_core.specs.State.{HasUnfinished}
use Rattle.wq_counts.specs.declared.kind.Kind.{Kind}
use Rattle.wq_counts.specs.declared.kind.LaneKind.{LaneKind}
use Rattle.wq_counts.specs.Counting.{counts_each, HasCountsOf, made, made_lane, tally, tally_lane, counted_rows}
use Rattle.wq_history.specs.declared.asking.Subject.TheVariants.{Item as OfItem, Lane as OfLane}
use Rattle.wq_history.specs.Events.{begins_to_wait, ends_a_wait}
use Rattle.wq_history.specs.Book.{BookView, state, IsBook}

-- the counts are the sums over the seats, each of them: for each item or lane, kind and answer
abbrev pub SumsSeats : List (List ℕ) → List ℕ → Type 0
SumsSeats seats counts = (p : ℕ) → slice_index counts p ≡ sum_by (λ (seat : List ℕ). slice_index seat p) seats

-- so many seats can be taken in, with counts of n slots each: nothing is summed up yet, the ledger's total is small,
-- the seats and those parts that are left are all its parts, and what is left has no amount
pub record MayBeGathered (n parts seats : ℕ) (sums : List ℕ) (total parts_left amount_left : ℕ) : Type 0 where
  pub empty : sums ≡ replicate (counts_each * n) 0
  pub few : total < 4294967296
  pub parts_are : parts_left + seats ≡ parts
  pub no_amount : amount_left ≡ 0

-- these seats were taken in: the sums are theirs, and add up to the ledger's total
pub record AreGathered (n : ℕ) (seats : List (List ℕ)) (sums : List ℕ) (total : ℕ) : Type 0 where
  pub sums_are : SumsSeats seats sums
  pub a_count_each : HasCountsOf n sums
  pub total_is : sum sums ≡ total

-- every count is the number of the rows that it counts: for each item, kind and
-- answer, and for each lane, kind and answer
abbrev pub Agrees : Wiring → BookView → List ℕ → Type 0
Agrees w book counts =
    ((i : ℕ) (kind : Kind) (said : Bool) → i < items w → made counts i kind said ≡ tally book.rows i kind said)
    × ((q : ℕ) (kind : LaneKind) (said : Bool) → q < w.lanes
    → made_lane counts q kind said ≡ tally_lane book.rows q kind said)

-- a runtime with this wiring and this many rows was closed with these seats: its book is idle and a legal history; each
-- caller that had to wait was told, item by item and lane by lane; the counts are the sums over the seats, and add up
-- to the number of the book's counted rows; and `agree` says whether each count is the number of the rows that it
-- counts
pub record IsClosed (w : Wiring) (rows : ℕ) (seats : List (List ℕ)) (book : BookView) (counts : List ℕ) (agree : Bool)
    : Type 0 where
  pub of_wiring : book.wiring ≡ w
  pub of_rows : book.room ≡ rows
  pub legal : IsBook book
  pub idle : ¬ HasUnfinished (state book)
  pub told : (i : ℕ) → count_by (ends_a_wait (OfItem i)) book.rows ≡ count_by (begins_to_wait (OfItem i)) book.rows
  pub told_lanes : (q : ℕ)
      → count_by (ends_a_wait (OfLane q)) book.rows ≡ count_by (begins_to_wait (OfLane q)) book.rows
  pub sums : SumsSeats seats counts
  pub total : sum counts ≡ counted_rows book.rows
  pub agrees : IsTrue agree ↔ Agrees w book counts
