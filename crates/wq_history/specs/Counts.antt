-- Counts of the asks that wait.
use Rattle.std.specs.Prelude.{◌≡◌, ℕ, ◌+◌, ◌*◌, ◌<◌, ◌≤◌, List, length, sum, slice_index, ◌&&◌}
use Rattle.std.specs.List.{count_by}
use Rattle.wq_core.specs.Wiring.{Wiring}
use Rattle.wq_core.specs.Work.{work_left}
use Rattle.wq_core.specs.Held.{Machine, IsMachine}
use Rattle.wq_rows.specs.declared.event.Row.{Row}
use Rattle.wq_rows.specs.Stored.{max_rows}
use Rattle.wq_history.specs.declared.asking.Subject.{Subject}
use Rattle.wq_history.specs.declared.asking.Subject.TheVariants.{Item as OfItem, Lane as OfLane}
use Rattle.wq_history.specs.Events.{begins_to_wait, ends_a_wait, is_ask, is_told}
use Rattle.wq_history.specs.History.{state_after, IsThere, IsLegal}

-- where the count of the asks about an item or a lane is: that of item 0, of lane 0, of item 1, of lane 1, and so on
abbrev pub ask_place : Subject → ℕ
ask_place (OfItem i) = 2 * i
ask_place (OfLane q) = 2 * q + 1

-- how many asks wait for each item and each lane, by place, and how many in all
pub record AskView : Type 0 where
  pub counts : List ℕ
  pub all : ℕ

-- the number in all is the sum of the counts
abbrev pub CountsAll : AskView → Type 0
CountsAll asks = sum asks.counts ≡ asks.all

-- the counts are those of these rows: for each item, for each lane and in all, the asks that wait and those that were
-- told add up to those that were answered with yes
pub record CountsAsks (rows : List Row) (asks : AskView) : Type 0 where
  pub each : (x : Subject)
      → slice_index asks.counts (ask_place x) + count_by (ends_a_wait x) rows ≡ count_by (begins_to_wait x) rows
  pub in_all : asks.all + count_by (λ (row : Row). is_told row.event) rows
      ≡ count_by (λ (row : Row). is_ask row.event && row.yes) rows

-- the asks that wait are counted: each item and each lane has a count, and their sum is the number in all
pub record AreCounted (w : Wiring) (rows : List Row) (asks : AskView) : Type 0 where
  pub each : (x : Subject) → IsThere w x → ask_place x < length asks.counts
  pub sum_is : CountsAll asks
  pub counts : CountsAsks rows asks

-- a machine is the replay of rows: they are legal, the asks that wait are counted, and no more numbers were given than
-- there are rows
pub record Replays (machine : Machine) (rows : List Row) (asks : AskView) : Type 0 where
  pub machine_is : IsMachine machine
  pub replay : machine.state ≡ state_after machine.wiring rows
  pub legal : IsLegal machine.wiring rows
  pub asked : AreCounted machine.wiring rows asks
  pub numbers : machine.state.next ≤ length rows

-- what holds for the parts of a book: its machine is the replay of its rows, the work that is left is counted, and rows
-- are kept for it and for the asks that wait
pub record HoldsBook (machine : Machine) (rows : List Row) (room : ℕ) (asks : AskView) (work : ℕ) : Type 0 where
  pub replays : Replays machine rows asks
  pub work_is : work ≡ work_left machine.wiring machine.state
  pub enough : length rows + (work + asks.all) ≤ room
  pub limit : room ≤ max_rows
