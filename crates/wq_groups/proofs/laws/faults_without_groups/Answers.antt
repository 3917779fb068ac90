use Rattle.wq_groups.proofs.Regrouped.{none-iff, lowest-iff}
use Rattle.wq_groups.proofs.laws.faults_without_groups.Goals as goal

pub returns-clause-none : goal.returns-clause-none
returns-clause-none c = none-iff

pub returns-clause-lowest : goal.returns-clause-lowest
returns-clause-lowest c = lowest-iff
