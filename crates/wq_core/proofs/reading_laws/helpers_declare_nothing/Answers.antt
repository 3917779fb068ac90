use Rattle.wq_core.proofs.MoreFlushes.{DeclaresMore-helpers}
use Rattle.wq_core.proofs.reading_laws.helpers_declare_nothing.Goals as goal

pub returns : goal.returns
returns c = DeclaresMore-helpers
