-- What it costs at least to come on from an item of each lane.
use Rattle.std.specs.Prelude.{◌≡◌, ◌==◌, ℕ, ◌<◌, ◌≤◌, ◌+◌, not, ◌&&◌, true, false, Bool, if◌then◌else◌, List}
use Rattle.std.specs.Prelude.{length, slice_index, slice_index_or, Contains}
use Rattle.wq_items.specs.declared.target.Target.{Target}
use Rattle.wq_core.specs.Wiring.{Wiring, HasRescuer, lane_of, declared_by}
use Rattle.wq_hang.specs.declared.hop.Hop.{Hop}
use Rattle.wq_hang.specs.Walk.{IsPath, unsure_part}
use Rattle.wq_hang.specs.Search.{hops_cost}

-- to come from an item of a lane to an item that declares a flush, of a marked lane that has a rescuer, costs at least
-- the bound of the lane
pub record AreLaneBounds (w : Wiring) (marks : List Bool) (bounds : List ℕ) : Type 0 where
  pub one_each : length bounds ≡ w.lanes
  pub least : (i first : ℕ) (hops : List Hop) → HasRescuer w (lane_of w first)
      → slice_index_or marks (lane_of w first) false ≡ true → 0 < length (declared_by w first) → IsPath w i hops first
      → slice_index bounds (lane_of w i) ≤ hops_cost hops

-- what a hop by the flush costs at least, after which an item waits: a target that declares no flush is queued beside
-- it
abbrev pub least_step : Wiring → Target → ℕ
least_step w t = unsure_part t + (if not t.whole && (length (declared_by w t.item) == 0) then 4 else 3)

-- no flush of item i that leads to a lane with a rescuer costs less, with the bound of that lane
abbrev pub IsBelowEach : Wiring → List ℕ → ℕ → ℕ → Type 0
IsBelowEach w bounds i cost = (t : Target) → Contains (declared_by w i) t → HasRescuer w (lane_of w t.item)
    → cost ≤ least_step w t + slice_index bounds (lane_of w t.item)
