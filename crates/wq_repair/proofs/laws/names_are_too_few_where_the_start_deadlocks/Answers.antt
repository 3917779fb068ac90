use Rattle.wq_repair.proofs.Starts.{Deadlocks-start_bare, Deadlocks-start_circle}
use Rattle.wq_repair.proofs.laws.names_are_too_few_where_the_start_deadlocks.Goals as goal

pub returns-clause-leads_to_bare : goal.returns-clause-leads_to_bare
returns-clause-leads_to_bare c = λ d old start new names g h declaration before is compared waits rescued none. Deadlocks-start_bare d old start new names declaration before is compared g h waits rescued none

pub returns-clause-circle : goal.returns-clause-circle
returns-clause-circle c = λ d old start new names declaration before is compared circle. Deadlocks-start_circle d old start new names declaration before is compared circle
