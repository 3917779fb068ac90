use Rattle.wq_cert.proofs.LaneLemmas.{Settled}
use Rattle.wq_cert.proofs.noted_workqueues.settle.Given as goal

abbrev pub invariant-loop-item : goal.invariant-loop-item
invariant-loop-item g l = Settled l.groups l.lane l.fn.lane_of_group.items l.lane_of_group.items l.items l.item-index
