use Rattle.std.proofs.Common.{◌<◌, ℕ}
use Rattle.wq_core.specs.Played.{CanMove}
use Rattle.wq_core.proofs.machine.Core.enabled.Given as goal

abbrev pub invariant-loop-number : goal.invariant-loop-number
invariant-loop-number g l = (p : ℕ) → p < l.number → ¬ CanMove l.self.wiring l.self.state p
