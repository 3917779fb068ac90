use Rattle.wq_core.proofs.MoreFlushes.{DeclaresMore-reading, DeclaresMore-all}
use Rattle.wq_core.proofs.reading_laws.readings_that_keep_more_declare_more.Goals as goal

pub returns-clause-more : goal.returns-clause-more
returns-clause-more c = DeclaresMore-reading

pub returns-clause-all : goal.returns-clause-all
returns-clause-all c = DeclaresMore-all
