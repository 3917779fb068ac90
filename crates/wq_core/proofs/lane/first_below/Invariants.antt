use Rattle.std.proofs.Common.{◌≡◌, ◌<◌, ℕ, Some, None, get_or}
use Rattle.wq_core.specs.declared.entry.Running.{Running}
use Rattle.wq_core.proofs.lane.first_below.Given as goal

abbrev pub invariant-loop-running : goal.invariant-loop-running
invariant-loop-running l = (h : ℕ) (r : Running) → h < l.running-index → get_or l.helping h None ≡ Some r → ¬ (r.entry.number < l.mark)
