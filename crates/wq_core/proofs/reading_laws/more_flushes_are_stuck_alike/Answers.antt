use Rattle.wq_core.proofs.MoreFlushes.{stuck-more, stuck-fewer}
use Rattle.wq_core.proofs.reading_laws.more_flushes_are_stuck_alike.Goals as goal

pub returns : goal.returns
returns c = λ v w s h. (stuck-more v w s h, stuck-fewer v w s h)
