use Rattle.std.proofs.Common.{subst}
use Rattle.wq_rows.specs.Stored.{IsHistory}
use Rattle.wq_rows.proofs.StoredLemmas.{IsRoomy-history}
use Rattle.wq_rows.proofs.history.History.room.Goals as goal

pub returns-clause-history : goal.returns-clause-history
returns-clause-history g c = subst IsHistory c.self.view_is (IsRoomy-history _ _ _ c.self.invariant)
