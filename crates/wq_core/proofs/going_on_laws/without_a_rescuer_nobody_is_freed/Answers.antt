use Rattle.wq_core.proofs.GoingOn.{still-stuck, still-held}
use Rattle.wq_core.proofs.going_on_laws.without_a_rescuer_nobody_is_freed.Goals as goal

pub returns-clause-stuck : goal.returns-clause-stuck
returns-clause-stuck c = still-stuck

pub returns-clause-safe : goal.returns-clause-safe
returns-clause-safe c = still-held
