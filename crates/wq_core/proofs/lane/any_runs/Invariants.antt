use Rattle.std.proofs.Common.{◌≡◌, take, false}
use Rattle.std.specs.List.{list_any}
use Rattle.wq_core.specs.State.{runs_item}
use Rattle.wq_core.proofs.lane.any_runs.Given as goal

abbrev pub invariant-loop-running : goal.invariant-loop-running
invariant-loop-running l = list_any (runs_item l.item) (take l.running-index l.helping) ≡ false
