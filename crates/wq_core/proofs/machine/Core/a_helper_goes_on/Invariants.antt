use Rattle.std.proofs.Common.{◌≤◌, ℕ}
use Rattle.wq_core.specs.Played.{HelperGoesOn}
use Rattle.wq_core.proofs.machine.Core.a_helper_goes_on.Given as goal

abbrev pub invariant-loop-before : goal.invariant-loop-before
invariant-loop-before g l = (h : ℕ) → h ≤ l.before → ¬ HelperGoesOn l.self.wiring l.self.state l.fn.q h
