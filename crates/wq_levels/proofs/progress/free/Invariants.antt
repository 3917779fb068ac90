use Rattle.wq_levels.specs.Taking.{AreFree}
use Rattle.wq_levels.proofs.progress.free.Given as goal

abbrev pub invariant-loop-v : goal.invariant-loop-v
invariant-loop-v g l = AreFree l.v l.remaining l.order.items
