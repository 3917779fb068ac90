use Rattle.wq_cert.proofs.StoodLemmas.{Marked}
use Rattle.wq_cert.proofs.noted_workqueues.mark.Given as goal

abbrev pub invariant-loop-item : goal.invariant-loop-item
invariant-loop-item g l = Marked l.fn.stood.items l.stood.items l.items l.item-index
