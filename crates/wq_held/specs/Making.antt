-- Why a runtime isn't made.
use Rattle.std.specs.Prelude.{ℕ, ◌<◌, ◌≤◌, ◌⊎◌}
use Rattle.wq_core.specs.Wiring.{Wiring, max_helpers}
use Rattle.wq_core.specs.Deadlock.{IsSafe}
use Rattle.wq_rows.specs.Stored.{max_rows}
use Rattle.wq_held.specs.declared.fault.NewError.{NewError}
use Rattle.wq_held.specs.declared.fault.NewError.TheVariants.{TooManyLanes, TooManyRows, TooManyHelpers, NotSafe}
use Rattle.wq_held.specs.declared.fault.NewError.TheVariants.{OutOfMemory}
use Rattle.wq_held.specs.Locked.{max_runtime_lanes}

-- making a runtime of a wiring with this many rows: too many lanes; too many rows; too many helpers, which can't be if
-- the wiring has none; some run ends stuck; out of memory, but never if there is nothing to keep
abbrev pub RefusesRuntime : Wiring → ℕ → NewError → Type 0
RefusesRuntime w rows TooManyLanes = max_runtime_lanes < w.lanes
RefusesRuntime w rows TooManyRows = (w.lanes ≤ max_runtime_lanes) × (max_rows < rows)
RefusesRuntime w rows TooManyHelpers = (w.lanes ≤ max_runtime_lanes) × (rows ≤ max_rows) × (max_helpers < w.helpers)
RefusesRuntime w rows NotSafe = (w.lanes ≤ max_runtime_lanes) × (rows ≤ max_rows) × (w.helpers ≤ max_helpers)
    × (¬ IsSafe w)
RefusesRuntime w rows OutOfMemory = (w.lanes ≤ max_runtime_lanes) × (rows ≤ max_rows) × (w.helpers ≤ max_helpers)
    × ((0 < w.lanes) ⊎ (0 < rows))

-- a runtime is made: no such cause holds
pub record MakesRuntime (w : Wiring) (rows : ℕ) : Type 0 where
  pub few_lanes : w.lanes ≤ max_runtime_lanes
  pub few_rows : rows ≤ max_rows
  pub few_helpers : w.helpers ≤ max_helpers
  pub safe : IsSafe w
