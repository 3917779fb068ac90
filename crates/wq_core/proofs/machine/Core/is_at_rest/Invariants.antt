use Rattle.std.proofs.Common.{◌<◌, ℕ}
use Rattle.wq_core.specs.Wiring.{HasRescuer}
use Rattle.wq_core.specs.State.{lane_at, IsBusy}
use Rattle.wq_core.proofs.machine.Core.is_at_rest.Given as goal

abbrev pub invariant-loop-number : goal.invariant-loop-number
invariant-loop-number g l = (p : ℕ) → p < l.number → HasRescuer l.self.wiring p → ¬ IsBusy (lane_at l.self.state p)
