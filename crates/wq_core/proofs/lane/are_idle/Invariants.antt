use Rattle.std.proofs.Common.{◌≡◌, take, Option, None}
use Rattle.std.specs.List.{All}
use Rattle.wq_core.specs.declared.entry.Running.{Running}
use Rattle.wq_core.proofs.lane.are_idle.Given as goal

abbrev pub invariant-loop-running : goal.invariant-loop-running
invariant-loop-running l = All (λ (o : Option Running). o ≡ None) (take l.running-index l.helping)
