use Rattle.std.proofs.Common.{◌≡◌, take, false}
use Rattle.std.specs.List.{list_any}
use Rattle.wq_core.specs.Held.{runs_below}
use Rattle.wq_core.proofs.lane.any_runs_below.Given as goal

abbrev pub invariant-loop-running : goal.invariant-loop-running
invariant-loop-running l = list_any (runs_below l.item l.mark) (take l.running-index l.helping) ≡ false
