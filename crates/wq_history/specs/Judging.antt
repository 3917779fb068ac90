-- Judging a history: what its bytes say about a machine on which nothing has happened.
use Rattle.std.specs.Prelude.{◌≡◌, ℕ, ◌+◌, ◌-◌, ◌<◌, ◌⊎◌, List, ◌++◌, length, take, slice_index, slice_set, Option}
use Rattle.std.specs.Prelude.{Some, None, Bool, true}
use Rattle.wq_core.specs.declared.step.Step.{Step}
use Rattle.wq_core.specs.Wiring.{items}
use Rattle.wq_core.specs.Held.{Machine, machine_after}
use Rattle.wq_rows.specs.declared.event.Event.{Event}
use Rattle.wq_rows.specs.declared.event.Event.TheVariants.{Ask, Told, AskLane, ToldLane}
use Rattle.wq_rows.specs.declared.event.Row.{Row}
use Rattle.wq_rows.specs.Packing.{IsPackedRow}
use Rattle.wq_rows.specs.Stored.{IsStored}
use Rattle.wq_history.specs.declared.asking.Subject.{Subject}
use Rattle.wq_history.specs.declared.asking.Subject.TheVariants.{Item as OfItem, Lane as OfLane}
use Rattle.wq_history.specs.declared.row_error.RowFault.{RowFault}
use Rattle.wq_history.specs.declared.row_error.RowFault.TheVariants.{BadRow, NotLegal, OutOfMemory}
use Rattle.wq_history.specs.History.{state_after, MayFollow, IsLegal}
use Rattle.wq_history.specs.Counts.{AskView, ask_place}

-- the bytes hold these rows, they are a legal history of the machine, and the
-- machine, which was new, is now their replay
pub record IsJudged (old : Machine) (bytes : List ℕ) (rows : List Row) (new : Machine) : Type 0 where
  pub stored : IsStored bytes rows
  pub legal : IsLegal old.wiring rows
  pub replay : new ≡ record { wiring = old.wiring; state = state_after old.wiring rows }

-- the bytes up to a place are such a history, and some are left; the next row is the one at `at`, counted from 1
pub record IsJudgedUpTo (old : Machine) (bytes : List ℕ) (at : ℕ) (new : Machine) : Type 0 where
  pub rows : List Row
  pub judged_bytes : List ℕ
  pub left : List ℕ
  pub joined : judged_bytes ++ left ≡ bytes
  pub judged : IsJudged old judged_bytes rows new
  pub some_left : 0 < length left
  pub at_is : at ≡ length rows + 1

-- why bytes aren't a legal history: the next 12 of them, or those that are left if they are fewer, aren't a row; they
-- are a row that may not follow; out of memory, which comes before any row, and only if there are items or lanes
abbrev pub IsFaultAt : Machine → List ℕ → ℕ → Machine → RowFault → Type 0
IsFaultAt old bytes at new BadRow =
    (place : IsJudgedUpTo old bytes at new) × ((row : Row) → ¬ IsPackedRow (take 12 place.left) row)
IsFaultAt old bytes at new NotLegal =
    (place : IsJudgedUpTo old bytes at new)
    × ((row : Row) × IsPackedRow (take 12 place.left) row × (¬ MayFollow old.wiring place.rows row))
IsFaultAt old bytes at new OutOfMemory = (at ≡ 0) × (new ≡ old) × ((0 < items old.wiring) ⊎ (0 < old.wiring.lanes))

-- ---- one more row

-- the machine after a step, if there is one
abbrev pub stepped : Machine → Option Step → Machine
stepped m None = m
stepped m (Some step) = machine_after m step

-- one more ask about this waits
abbrev pub with_ask : Subject → AskView → AskView
with_ask x asks =
    record {
      counts = slice_set asks.counts (ask_place x) (slice_index asks.counts (ask_place x) + 1);
      all = asks.all + 1;
    }

-- one ask about this waits no longer
abbrev pub without_ask : Subject → AskView → AskView
without_ask x asks =
    record {
      counts = slice_set asks.counts (ask_place x) (slice_index asks.counts (ask_place x) - 1);
      all = asks.all - 1;
    }

-- the counts of the asks that wait after an event with this `yes`
abbrev pub counted : AskView → Event → Bool → AskView
counted asks (Ask i) true = with_ask (OfItem i) asks
counted asks (AskLane q) true = with_ask (OfLane q) asks
counted asks (Told i) said = without_ask (OfItem i) asks
counted asks (ToldLane q) said = without_ask (OfLane q) asks
counted asks _ _ = asks

-- ---- numbers

-- the number of a fault
abbrev pub row_code : RowFault → ℕ
row_code BadRow = 75
row_code NotLegal = 76
row_code OutOfMemory = 20
