use Rattle.std.specs.Prelude.{◌↔◌, drop}
use Rattle.wq_checker.specs.Searching.{HasOneLeft}
use Rattle.wq_checker.proofs.running.has_one_left.Given as goal

-- none so far
abbrev pub invariant-loop-item : goal.invariant-loop-item
invariant-loop-item g l = HasOneLeft l.core.state (drop l.item-index l.named) ↔ HasOneLeft l.core.state l.named
