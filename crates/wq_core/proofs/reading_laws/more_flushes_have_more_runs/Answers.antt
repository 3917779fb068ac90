use Rattle.wq_core.proofs.MoreFlushes.{IsRun-more, end_of-more}
use Rattle.wq_core.proofs.reading_laws.more_flushes_have_more_runs.Goals as goal

pub returns-clause-runs : goal.returns-clause-runs
returns-clause-runs c = IsRun-more

pub returns-clause-ends : goal.returns-clause-ends
returns-clause-ends c = end_of-more
