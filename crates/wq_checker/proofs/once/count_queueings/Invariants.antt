use Rattle.std.proofs.Common.{take}
use Rattle.wq_checker.proofs.QueueCounts.{Counted}
use Rattle.wq_checker.proofs.once.count_queueings.Given as goal

abbrev pub invariant-loop-step : goal.invariant-loop-step
invariant-loop-step g l = Counted (take l.step-index l.steps) l.items l.counts.items
