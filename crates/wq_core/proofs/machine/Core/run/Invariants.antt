use Rattle.std.proofs.Common.{◌≡◌, take}
use Rattle.wq_core.specs.Held.{AreDone}
use Rattle.wq_core.proofs.machine.Core.run.Given as goal

abbrev pub invariant-loop-step : goal.invariant-loop-step
invariant-loop-step g l = AreDone l.fn.self (take l.step-index l.steps) l.self × (l.at ≡ l.step-index)
