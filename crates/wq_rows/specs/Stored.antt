-- Stored: the bytes of a history, and the rows that they hold.
use Rattle.std.specs.Prelude.{◌≡◌, ℕ, zero, suc, ◌*◌, ◌≤◌, ◌==◌, if◌then◌else◌, List, [], ◌∷◌, ◌++◌, length, Option}
use Rattle.std.specs.Prelude.{Some, None, option_map}
use Rattle.std.specs.Int.{w16, w32, from_le_bytes}
use Rattle.std.specs.List.{All}
use Rattle.std.specs.Option.{option_to_list}
use Rattle.wq_core.specs.declared.step.HelpStep.{HelpStep}
use Rattle.wq_core.specs.declared.step.HelpStep.TheVariants.{Start as DoStart, Wait as DoWait, WaitAll as DoWaitAll}
use Rattle.wq_core.specs.declared.step.HelpStep.TheVariants.{Over as DoOver, OverAll as DoOverAll, Finish as DoFinish}
use Rattle.wq_rows.specs.declared.event.Event.{Event}
use Rattle.wq_rows.specs.declared.event.Event.TheVariants.{Queue, Cancel, Start, Wait, Over, Finish, Ask, Told, WaitAll}
use Rattle.wq_rows.specs.declared.event.Event.TheVariants.{OverAll, AskLane, ToldLane, Help}
use Rattle.wq_rows.specs.declared.event.Row.{Row}
use Rattle.wq_rows.specs.Packing.{packed_rows, IsPackable, IsRowInRange}

-- how many rows a history may have
abbrev pub max_rows : ℕ
max_rows = 16777216

-- the event with this kind, item and lane, not made by a helper; none if no event has this kind
abbrev pub event_of : ℕ → ℕ → ℕ → Option Event
event_of kind item lane =
    if kind == 1 then Some (Queue item)
    else if kind == 2 then Some (Cancel item)
    else if kind == 3 then Some (Start lane item)
    else if kind == 4 then Some (Wait lane item)
    else if kind == 5 then Some (Over lane item)
    else if kind == 6 then Some (Finish lane item)
    else if kind == 7 then Some (Ask item)
    else if kind == 8 then Some (Told item)
    else if kind == 9 then Some (WaitAll lane item)
    else if kind == 10 then Some (OverAll lane item)
    else if kind == 11 then Some (AskLane lane)
    else if kind == 12 then Some (ToldLane lane)
    else None

-- the step of a helper with this kind and item; none if no such step has this kind
abbrev pub help_step_of : ℕ → ℕ → Option HelpStep
help_step_of kind item =
    if kind == 3 then Some (DoStart item)
    else if kind == 4 then Some (DoWait item)
    else if kind == 5 then Some (DoOver item)
    else if kind == 6 then Some (DoFinish item)
    else if kind == 9 then Some (DoWaitAll item)
    else if kind == 10 then Some (DoOverAll item)
    else None

-- the event with this kind, item, lane and helper (0 for none); none if no such event has this kind
abbrev pub event_by : ℕ → ℕ → ℕ → ℕ → Option Event
event_by kind item lane zero = event_of kind item lane
event_by kind item lane (suc h) = option_map (λ step. Help lane (suc h) step) (help_step_of kind item)

-- the rows that some bytes hold, 12 bytes each. It is meant for bytes that hold rows. Of other bytes it reads what it
-- can: 12 bytes that don't begin with a kind aren't a row, and neither are fewer than 12 bytes at the end
abbrev pub rows_of : List ℕ → List Row
rows_of (kind ∷ answer ∷ item0 ∷ item1 ∷ lane0 ∷ lane1 ∷ helper ∷ spare ∷ number0 ∷ number1 ∷ number2 ∷ number3 ∷ rest) =
    option_to_list (option_map
    (λ event.
    record {
      event = event;
      yes = answer == 1;
      number = from_le_bytes w32 (number0 ∷ number1 ∷ number2 ∷ number3 ∷ []);
    })
    (event_by kind (from_le_bytes w16 (item0 ∷ item1 ∷ [])) (from_le_bytes w16 (lane0 ∷ lane1 ∷ [])) helper))
    ++ rows_of rest
rows_of _ = []

-- these bytes hold these rows
pub record IsStored (bytes : List ℕ) (rows : List Row) : Type 0 where
  pub packable : All IsPackable rows
  pub in_range : All IsRowInRange rows
  pub holds : packed_rows rows ≡ bytes

-- what holds for the bytes of a history, given how many bytes and how many rows there is room for: the bytes hold rows,
-- no more than there is room for, and there are enough bytes for all rows that there is room for
pub record IsRoomy (bytes : List ℕ) (capacity room : ℕ) : Type 0 where
  pub stored : IsStored bytes (rows_of bytes)
  pub within : length bytes ≤ 12 * room
  pub memory : 12 * room ≤ capacity
  pub few : room ≤ max_rows

-- a history: its rows, and how many rows there is room for
pub record HistoryView : Type 0 where
  pub rows : List Row
  pub room : ℕ

-- what holds for every history: each row can be packed, there are no more rows than
-- there is room for, and no more room than a history may have
pub record IsHistory (history : HistoryView) : Type 0 where
  pub packable : All IsPackable history.rows
  pub in_range : All IsRowInRange history.rows
  pub within : length history.rows ≤ history.room
  pub few : history.room ≤ max_rows
