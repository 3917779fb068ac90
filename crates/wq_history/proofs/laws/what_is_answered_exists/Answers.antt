use Rattle.wq_history.proofs.Upheld.{start_there, wait-there, over-there, finish-there}
use Rattle.wq_history.proofs.laws.what_is_answered_exists.Goals as goal

pub returns-clause-started : goal.returns-clause-started
returns-clause-started c = start_there

pub returns-clause-waits : goal.returns-clause-waits
returns-clause-waits c = wait-there

pub returns-clause-over : goal.returns-clause-over
returns-clause-over c = over-there

pub returns-clause-finished : goal.returns-clause-finished
returns-clause-finished c = finish-there
