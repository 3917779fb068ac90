-- Rows kept free, so that neither a rescuer, nor a helper, nor a caller who waits ever lacks a row.
use Rattle.std.specs.Prelude.{ℕ, ◌+◌, ◌-◌, List, length, Bool, true, false}
use Rattle.wq_core.specs.Wiring.{Wiring}
use Rattle.wq_core.specs.Work.{whole_work, work_left}
use Rattle.wq_rows.specs.declared.event.Event.{Event}
use Rattle.wq_rows.specs.declared.event.Event.TheVariants.{Queue, Cancel, Ask, AskLane}
use Rattle.wq_rows.specs.declared.event.Row.{Row}
use Rattle.wq_history.specs.History.{state_after, all_asks_waiting}

-- how many rows are kept for what is to come: one for each step that is left, and one for each ask that waits
abbrev pub reserved : Wiring → List Row → ℕ
reserved w rows = work_left w (state_after w rows) + all_asks_waiting rows

-- how many of this many rows are neither written nor kept
abbrev pub free_rows : Wiring → ℕ → List Row → ℕ
free_rows w room rows = room - (length rows + reserved w rows)

-- how many free rows an event with this `yes` needs: an accepted queueing needs its own and those of the execution; an
-- ask that waits, its own and that of its end; an event that comes to nothing, its own. A cancellation that removes an
-- entry writes one of the rows kept for it, and rescuers, helpers and callers who are told write theirs
abbrev pub rows_needed : Wiring → Event → Bool → ℕ
rows_needed w (Queue i) true = 1 + whole_work w i
rows_needed w (Queue i) false = 1
rows_needed w (Cancel i) false = 1
rows_needed w (Ask i) true = 2
rows_needed w (Ask i) false = 1
rows_needed w (AskLane q) true = 2
rows_needed w (AskLane q) false = 1
rows_needed w _ _ = 0
