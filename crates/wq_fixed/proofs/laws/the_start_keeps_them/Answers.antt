use Rattle.wq_fixed.proofs.StartKeeps.{Keeps-start, IsAssignmentOf-start}
use Rattle.wq_fixed.proofs.laws.the_start_keeps_them.Goals as goal

pub returns : goal.returns
returns c groups f fixed = (Keeps-start groups f fixed, IsAssignmentOf-start groups f fixed)
