use Rattle.wq_core.proofs.GoingOn.{stuck-rescued, safe-rescued, deadlocks-rescued}
use Rattle.wq_core.proofs.going_on_laws.all_items_with_a_rescuer_must_go_on.Goals as goal

pub returns-clause-stuck : goal.returns-clause-stuck
returns-clause-stuck c = stuck-rescued

pub returns-clause-safe : goal.returns-clause-safe
returns-clause-safe c = safe-rescued

pub returns-clause-deadlocks : goal.returns-clause-deadlocks
returns-clause-deadlocks c = deadlocks-rescued
