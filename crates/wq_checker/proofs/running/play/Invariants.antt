use Rattle.std.proofs.Common.{◌≡◌, ◌≤◌, take}
use Rattle.wq_checker.specs.Searching.{IsPlayed}
use Rattle.wq_checker.proofs.running.play.Given as goal

abbrev pub invariant-loop-step : goal.invariant-loop-step
invariant-loop-step g l = record {
  counted : l.made ≡ l.step-index;
  played : IsPlayed l.fn.core.wiring (take l.step-index l.steps) l.in_order l.core;
  few_numbers : l.core.state.next ≤ l.made;
}
